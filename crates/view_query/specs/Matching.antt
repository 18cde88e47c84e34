-- Which traces a search finds. (profile)
use Rattle.std.specs.Prelude.{ℕ, ◌-◌, suc, Bool, true, false, not, ◌==◌, ◌&&◌, ◌||◌, nat_lt, nat_le}
use Rattle.std.specs.Prelude.{ℤ, if◌then◌else◌, pos, negsuc, List, [], ◌∷◌, codes, drop, length}
use Rattle.std.specs.Prelude.{map, take, bytes_eq, Option, Some, None, String, string_bytes}
use Rattle.std.specs.Arc.{arc_value}
use Rattle.std.specs.Char.{to_ascii_lowercase}
use Rattle.std.specs.List.{list_all, list_any}
use Rattle.std.specs.declared.sync.Arc.{Arc}
use Rattle.model_message.specs.AnyValue.{AnyValue}
use Rattle.otlp_read.specs.Values.{any_value_view}
use Rattle.otlp_read.specs.declared.any_value.AnyValue.{AnyValue as Received}
use Rattle.trace_store.specs.Facts.{is_error, names_none, service_of}
use Rattle.trace_store.specs.declared.span.ViewSpan.{ViewSpan}
use Rattle.view_query.specs.Numbers.{number_of}
use Rattle.view_query.specs.Reading.{begins}
use Rattle.view_query.specs.Terms.{TermView, TestView, TestView as views}
use Rattle.view_query.specs.declared.test.ValueTest.{ValueTest}
use Rattle.view_query.specs.declared.test.ValueTest.TheVariants as asked
use Rattle.view_query.specs.declared.term.Order.{Order}
use Rattle.view_query.specs.declared.term.Order.TheVariants.{Above, AtLeast, Below, AtMost}
use Rattle.view_query.specs.declared.term.TextSign.{TextSign}
use Rattle.view_query.specs.declared.term.TextSign.TheVariants.{Is, IsNot, Has}

-- ---- texts and numbers

-- letters from A to Z in lower case
abbrev pub lower : List ℕ → List ℕ
lower text = map to_ascii_lowercase text

-- a text begins with a part, in any case of the letters
abbrev pub is_front : List ℕ → List ℕ → Bool
is_front part text = nat_le (length part) (length text)
    && bytes_eq (lower (take (length part) text)) (lower part)

-- a text contains a part, in any case of the letters: the part is at the front of what comes after
-- some of its bytes
abbrev pub contains : List ℕ → List ℕ → Bool
contains part [] = is_front part []
contains part (c ∷ cs) = is_front part (c ∷ cs) || contains part cs

-- a text compared with that of a term
abbrev pub fits_text : TextSign → List ℕ → List ℕ → Bool
fits_text Is wanted text = bytes_eq text wanted
fits_text IsNot wanted text = not (bytes_eq text wanted)
fits_text Has wanted text = contains wanted text

-- a number compared with that of a term
abbrev pub fits_number : Order → ℕ → ℕ → Bool
fits_number Above wanted number = nat_lt wanted number
fits_number AtLeast wanted number = nat_le wanted number
fits_number Below wanted number = nat_lt number wanted
fits_number AtMost wanted number = nat_le number wanted

-- whether a sign asks for less than a number
abbrev pub asks_for_less : Order → Bool
asks_for_less Above = false
asks_for_less AtLeast = false
asks_for_less Below = true
asks_for_less AtMost = true

-- ---- values of attributes

abbrev pub is_some_number : Option ℕ → ℕ → Bool
is_some_number None number = false
is_some_number (Some n) number = n == number

-- a minus, and then the digits of a number
abbrev pub spells_after_minus : List ℕ → ℕ → Bool
spells_after_minus text n = begins text (codes "-") && is_some_number (number_of (drop 1 text)) n

-- the digits of a whole number, after a minus where it is negative
abbrev pub spells : List ℕ → ℤ → Bool
spells text (pos n) = is_some_number (number_of text) n
spells text (negsuc n) = spells_after_minus text (suc n)

-- the word of a truth value
abbrev pub bool_word : Bool → List ℕ
bool_word true = codes "true"
bool_word false = codes "false"

-- A value is what a text spells: a text with these bytes, a truth value with this word, a whole
-- number with these digits. No other value is.
abbrev pub is_value : List ℕ → AnyValue → Bool
is_value wanted (AnyValue.text text) = bytes_eq text wanted
is_value wanted (AnyValue.bool b) = bytes_eq wanted (bool_word b)
is_value wanted (AnyValue.int number) = spells wanted number
is_value wanted _ = false

-- A value is a text that contains another one; each value does the empty text.
abbrev pub has_value : List ℕ → AnyValue → Bool
has_value wanted (AnyValue.text text) = contains wanted text
has_value wanted _ = length wanted == 0

-- a whole number compared with that of a term
abbrev pub fits_signed : Order → ℕ → ℤ → Bool
fits_signed order wanted (pos n) = fits_number order wanted n
fits_signed order wanted (negsuc n) = asks_for_less order

-- A value is a whole number that compares so. No other value does.
abbrev pub is_number : Order → ℕ → AnyValue → Bool
is_number order wanted (AnyValue.int number) = fits_signed order wanted number
is_number order wanted _ = false

-- what is asked of a value: nothing, that a text spells it, that it is a text with this part, or
-- that it is a whole number that compares so
abbrev pub value_test : ValueTest → AnyValue → Bool
value_test asked.Any value = true
value_test (asked.Is wanted) value = is_value wanted.now value
value_test (asked.Has wanted) value = has_value wanted.now value
value_test (asked.Number order wanted) value = is_number order wanted value

-- ---- attributes

-- an attribute: its key, and its value as it was received
abbrev pub Pair : Type 0 → Type 0
Pair A = String A × Received A

-- an attribute with this key passes a test of its value
abbrev pub is_pair : {A : Type 0} → List ℕ → (AnyValue → Bool) → Pair A → Bool
is_pair key test pair = bytes_eq (string_bytes pair.0) key && test (any_value_view pair.1)

-- one of some attributes does
abbrev pub has_pair : {A : Type 0} → List ℕ → (AnyValue → Bool) → List (Pair A) → Bool
has_pair key test pairs = list_any (λ p. is_pair key test p) pairs

-- one of those of a span does, or of its scope, or of its resource
abbrev pub has_attribute : {A : Type 0} → List ℕ → (AnyValue → Bool) → ViewSpan A → Bool
has_attribute key test s =
    has_pair key test s.span.attributes.items
    || has_pair key test (arc_value s.scope).scope.attributes.items
    || has_pair key test (arc_value s.resource).resource.attributes.items

-- any value
abbrev pub any_value : AnyValue → Bool
any_value value = true

-- An attribute with a key is compared with a text: one is it, none of one or more is it, one
-- contains it.
abbrev pub fits_attribute : {A : Type 0} → List ℕ → TextSign → List ℕ → ViewSpan A → Bool
fits_attribute key Is wanted s = has_attribute key (is_value wanted) s
fits_attribute key IsNot wanted s =
    has_attribute key any_value s && not (has_attribute key (is_value wanted) s)
fits_attribute key Has wanted s = has_attribute key (has_value wanted) s

-- ---- spans and traces

-- how long a span took, in nanoseconds: nothing where it ends before it starts
abbrev pub duration_of : {A : Type 0} → ViewSpan A → ℕ
duration_of s = s.span.end_time_unix_nano - s.span.start_time_unix_nano

-- a span passes a test
abbrev pub passes : {A : Type 0} → TestView → ViewSpan A → Bool
passes views.error s = is_error s.span
passes views.root s = names_none s.span
passes (views.name sign wanted) s = fits_text sign wanted (string_bytes s.span.name)
passes (views.service sign wanted) s = fits_text sign wanted (service_of s)
passes (views.duration order wanted) s = fits_number order wanted (duration_of s)
passes (views.attribute key sign wanted) s = fits_attribute key sign wanted s
passes (views.number key order wanted) s = has_attribute key (is_number order wanted) s

-- a span fulfils a term: it passes its test, or fails it where that is asked for
abbrev pub holds : {A : Type 0} → TermView → ViewSpan A → Bool
holds term s = if term.is_negated then not (passes term.test s) else passes term.test s

-- a span fulfils all terms
abbrev pub fits : {A : Type 0} → List TermView → ViewSpan A → Bool
fits terms s = list_all (λ t. holds t s) terms

-- A search finds a trace where one of its spans fulfils all terms.
abbrev pub finds : {A : Type 0} → List TermView → List (Arc (ViewSpan A) A) → Bool
finds terms spans = list_any (λ s. fits terms (arc_value s)) spans
