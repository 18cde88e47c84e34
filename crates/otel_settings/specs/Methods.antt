-- The methods of HTTP that spans are named by. (Semantic Conventions, http.request.method; blanks,
-- empty members, that the whole text counts as unset where a member is no method: profile)
use Rattle.std.specs.Prelude.{ℕ, Bool, ◌||◌, ◌==◌, List, [], ◌++◌, length, Option, Some, None}
use Rattle.std.specs.Prelude.{if◌then◌else◌, unwrap_or}
use Rattle.std.specs.List.{list_all, slice_split}
use Rattle.httparse.specs.Grammar.{is_token, trim_ows}
use Rattle.otel_settings.specs.declared.variable.Variable.TheVariants as variables
use Rattle.otel_settings.specs.declared.fault.Instead.TheVariants as instead
use Rattle.otel_settings.specs.Pairs.{Pairs, text_set}
use Rattle.otel_settings.specs.Faults.{Fault, read_by, faults_by}

-- between any blanks it is a method, which is a token (RFC 9110, section 9.1), or nothing
unfoldable pub is_method_or_nothing : List ℕ → Bool
is_method_or_nothing part = length (trim_ows part) == 0 || is_token (trim_ows part)

abbrev pub are_methods : List (List ℕ) → Bool
are_methods parts = list_all is_method_or_nothing parts

-- the text lists methods, with commas (44) between them
abbrev pub lists_methods : List ℕ → Bool
lists_methods text = are_methods (slice_split (λ b. b == 44) text)

-- a text that does
unfoldable pub method_list : List ℕ → Option (List ℕ)
method_list text = if lists_methods text then Some text else None

-- the text of the methods that are listed; nothing where none are
unfoldable pub methods_of : Pairs → List ℕ
methods_of pairs = unwrap_or (read_by method_list (text_set variables.HttpKnownMethods pairs)) []

-- the faults before it, and then its own
unfoldable pub methods_faults : List Fault → Pairs → List Fault
methods_faults before pairs =
    before
    ++ faults_by method_list variables.HttpKnownMethods instead.StandardMethods
    (text_set variables.HttpKnownMethods pairs)
