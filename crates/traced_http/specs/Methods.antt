-- How a span says the method of a request, and how it is named. (Semantic Conventions, HTTP spans,
-- Name; http.request.method)
use Rattle.std.specs.Prelude.{ℕ, Bool, if◌then◌else◌, List, [], ◌∷◌, ◌++◌, codes, bytes_eq}
use Rattle.std.specs.Prelude.{map, Option, Some, None, Vec}
use Rattle.std.specs.List.{list_any}
use Rattle.trace_context.specs.Tracestate.{entries_in}

-- the methods that a span is named by where no others are chosen (RFC 9110, section 9; RFC 5789)
abbrev pub standard_methods : List (List ℕ)
standard_methods =
    codes "CONNECT" ∷ codes "DELETE" ∷ codes "GET" ∷ codes "HEAD" ∷ codes "OPTIONS"
    ∷ codes "PATCH" ∷ codes "POST" ∷ codes "PUT" ∷ codes "TRACE" ∷ []

-- these methods, or the standard ones where there are none (profile)
abbrev pub chosen_methods : List (List ℕ) → List (List ℕ)
chosen_methods [] = standard_methods
chosen_methods (method ∷ methods) = method ∷ methods

-- The methods that a text lists, with commas between them. Blanks around them and empty ones don't
-- count. (Semantic Conventions, http.request.method; blanks, empty ones, a text that lists none:
-- profile)
abbrev pub listed_methods : List ℕ → List (List ℕ)
listed_methods text = chosen_methods (entries_in text)

-- the methods of a list
abbrev pub lent_methods : {A : Type 0} → List (Vec ℕ A) → List (List ℕ)
lent_methods methods = map (λ m. m.items) methods

-- those of a list that there is, or the standard ones
abbrev pub known_view : {A : Type 0} → Option (Vec (Vec ℕ A) A) → List (List ℕ)
known_view None = standard_methods
known_view (Some list) = lent_methods list.items

-- whether it is one of those that a span is named by, in just these letters
unfoldable pub is_known : List (List ℕ) → List ℕ → Bool
is_known known method = list_any (bytes_eq method) known

-- as an attribute has it
abbrev pub shown_method : List (List ℕ) → List ℕ → List ℕ
shown_method known method = if is_known known method then method else codes "_OTHER"

-- as it came, where it isn't known
abbrev pub original_method : List (List ℕ) → List ℕ → Option (List ℕ)
original_method known method = if is_known known method then None else Some method

-- as a name of a span has it
abbrev pub method_name : List (List ℕ) → List ℕ → List ℕ
method_name known method = if is_known known method then method else codes "HTTP"

-- a server's span is named by the method, and the route if there is one
abbrev pub span_name : List (List ℕ) → List ℕ → Option (List ℕ) → List ℕ
span_name known method None = method_name known method
span_name known method (Some route) = method_name known method ++ codes " " ++ route
