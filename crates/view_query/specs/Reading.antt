-- What a search text asks for. (profile)
use Rattle.std.specs.Prelude.{◌≡◌, ℕ, ◌+◌, ◌==◌, Bool, true, false, ◌||◌, if◌then◌else◌, List, []}
use Rattle.std.specs.Prelude.{◌∷◌, ◌++◌, codes, bytes_eq, drop, take, length, map}
use Rattle.std.specs.Prelude.{Option, Some, None, Result, Ok, Err, ⊤}
use Rattle.std.specs.List.{starts_with}
use Rattle.view_query.specs.Numbers.{nanos_of, number_of}
use Rattle.view_query.specs.Terms.{TermView, TestView, TestView as views}
use Rattle.view_query.specs.Words.{is_quote, run, words_of}
use Rattle.view_query.specs.declared.fault.Mistake.{Mistake}
use Rattle.view_query.specs.declared.fault.SearchFault.{SearchFault}
use Rattle.view_query.specs.declared.fault.SearchFault.TheVariants as search_faults
use Rattle.view_query.specs.declared.fault.TermFault.{TermFault}
use Rattle.view_query.specs.declared.fault.TermFault.TheVariants as term_faults
use Rattle.view_query.specs.declared.fault.Why.{Why}
use Rattle.view_query.specs.declared.fault.Why.TheVariants as whys
use Rattle.view_query.specs.declared.lex.Class.TheVariants.{Key, Unquoted}
use Rattle.view_query.specs.declared.term.Order.{Order}
use Rattle.view_query.specs.declared.term.Order.TheVariants as orders
use Rattle.view_query.specs.declared.term.Sign.{Sign}
use Rattle.view_query.specs.declared.term.Sign.TheVariants as signs
use Rattle.view_query.specs.declared.term.TextSign.{TextSign}
use Rattle.view_query.specs.declared.term.TextSign.TheVariants as texts

-- ---- values

-- a text begins with this one
abbrev pub begins : List ℕ → List ℕ → Bool
begins text front = starts_with (λ a b. a == b) text front

-- whether a text begins with a quote
abbrev pub opens : List ℕ → Bool
opens [] = false
opens (c ∷ cs) = is_quote c

-- a value without quotes
abbrev pub plain : List ℕ → Result (List ℕ) Why
plain text = if run Unquoted text == length text then Ok text else Err whys.Quote

-- what comes before the quote that closes a value, which is its last byte
abbrev pub closed : List ℕ → Result (List ℕ) Why
closed text =
    if run Unquoted text == length text then Err whys.Open
    else if run Unquoted text + 1 == length text then Ok (take (run Unquoted text) text)
    else Err whys.Quote

-- A value: a text in quotes, or a word without any.
abbrev pub value_of : List ℕ → Result (List ℕ) Why
value_of text = if opens text then closed (drop 1 text) else plain text

-- ---- signs

-- the sign that a text begins with, and how many bytes it has
unfoldable pub sign_of : List ℕ → Option (Sign × ℕ)
sign_of text =
    if begins text (codes ">=") then Some (signs.Order orders.AtLeast, 2)
    else if begins text (codes "<=") then Some (signs.Order orders.AtMost, 2)
    else if begins text (codes "!=") then Some (signs.Text texts.IsNot, 2)
    else if begins text (codes "=") then Some (signs.Text texts.Is, 1)
    else if begins text (codes ":") then Some (signs.Text texts.Has, 1)
    else if begins text (codes ">") then Some (signs.Order orders.Above, 1)
    else if begins text (codes "<") then Some (signs.Order orders.Below, 1)
    else None

-- ---- terms

-- a test of a field by a text
unfoldable pub text_test : List ℕ → TextSign → List ℕ → Result TestView Why
text_test key sign value =
    if length key == 0 then Err whys.Word
    else if bytes_eq key (codes "service") then Ok (views.service sign value)
    else if bytes_eq key (codes "name") then Ok (views.name sign value)
    else if bytes_eq key (codes "duration") then Err whys.Sign
    else Ok (views.attribute key sign value)

-- the duration with which a span is compared
abbrev pub duration_test : Order → Option ℕ → Result TestView Why
duration_test order None = Err whys.Duration
duration_test order (Some nanos) = Ok (views.duration order nanos)

-- the number with which an attribute is compared
abbrev pub number_test : List ℕ → Order → Option ℕ → Result TestView Why
number_test key order None = Err whys.Number
number_test key order (Some number) = Ok (views.number key order number)

-- a test of a field by a number
unfoldable pub order_test : List ℕ → Order → List ℕ → Result TestView Why
order_test key order value =
    if length key == 0 then Err whys.Word
    else if bytes_eq key (codes "service") || bytes_eq key (codes "name") then Err whys.Sign
    else if bytes_eq key (codes "duration") then duration_test order (nanos_of value)
    else number_test key order (number_of value)

-- a test of a field by a value
abbrev pub test_by : List ℕ → Sign → Result (List ℕ) Why → Result TestView Why
test_by key sign (Err why) = Err why
test_by key (signs.Text sign) (Ok value) = text_test key sign value
test_by key (signs.Order order) (Ok value) = order_test key order value

-- a key, and what comes after it: a sign and a value
abbrev pub test_after : List ℕ → List ℕ → Option (Sign × ℕ) → Result TestView Why
test_after key rest None = Err whys.Word
test_after key rest (Some sign) = test_by key sign.0 (value_of (drop sign.1 rest))

-- a word alone: a text that the span's name contains, but for two
unfoldable pub word_test : List ℕ → TestView
word_test word =
    if bytes_eq word (codes "error") then views.error
    else if bytes_eq word (codes "root") then views.root
    else views.name texts.Has word

-- a text in quotes, which the span's name contains
abbrev pub name_test : Result (List ℕ) Why → Result TestView Why
name_test (Ok text) = Ok (views.name texts.Has text)
name_test (Err why) = Err why

-- what a word asks of a span
abbrev pub test_of : List ℕ → Result TestView Why
test_of word =
    if length word == 0 then Err whys.Word
    else if opens word then name_test (value_of word)
    else if run Key word == length word then Ok (word_test word)
    else test_after (take (run Key word) word) (drop (run Key word) word)
    (sign_of (drop (run Key word) word))

abbrev pub term_by : Bool → Result TestView Why → Result TermView Why
term_by negated (Ok test) = Ok (record { is_negated = negated; test = test })
term_by negated (Err why) = Err why

-- A term: a test, which the span is to fail where a minus comes before it.
abbrev pub term_of : List ℕ → Result TermView Why
term_of word =
    if begins word (codes "-") then term_by true (test_of (drop 1 word))
    else term_by false (test_of word)

-- ---- the whole

abbrev pub and_terms : ℕ → Result TermView Why → Result (List TermView) Mistake
    → Result (List TermView) Mistake
and_terms at (Err why) terms = Err (record { at = at; why = why })
and_terms at (Ok term) (Err mistake) = Err mistake
and_terms at (Ok term) (Ok terms) = Ok (term ∷ terms)

-- the terms of some words, or the first of them that can't be read
abbrev pub terms_in : List (ℕ × List ℕ) → Result (List TermView) Mistake
terms_in [] = Ok []
terms_in (word ∷ words) = and_terms word.0 (term_of word.1) (terms_in words)

-- The terms of a search text, in order; or the first word that is none, with its place.
abbrev pub terms_of : List ℕ → Result (List TermView) Mistake
terms_of text = terms_in (words_of text)

-- ---- faults

-- a term has this fault, by what it means: memory may be refused for any
abbrev pub IsTermFault : {X : Type 0} → Result X Why → TermFault → Type 0
IsTermFault meaning term_faults.OutOfMemory = ⊤
IsTermFault meaning (term_faults.Wrong why) = meaning ≡ Err why

-- a search text has this fault
abbrev pub IsSearchFault : {X : Type 0} → Result X Mistake → SearchFault → Type 0
IsSearchFault meaning search_faults.OutOfMemory = ⊤
IsSearchFault meaning (search_faults.Mistake mistake) = meaning ≡ Err mistake

-- terms, and those of the rest after them
abbrev pub put_before : List TermView → Result (List TermView) Mistake
    → Result (List TermView) Mistake
put_before terms (Ok rest) = Ok (terms ++ rest)
put_before terms (Err mistake) = Err mistake
