-- The terms of a search. (profile)
use Rattle.std.specs.Prelude.{ℕ, Bool, List, map}
use Rattle.view_query.specs.declared.term.Order.{Order}
use Rattle.view_query.specs.declared.term.Term.{Term}
use Rattle.view_query.specs.declared.term.Test.{Test}
use Rattle.view_query.specs.declared.term.Test.TheVariants as tests
use Rattle.view_query.specs.declared.term.TextSign.{TextSign}

-- What is asked of a span: that its status is an error, that it names no parent; its name and its
-- service, each a text; its duration in nanoseconds; the value of an attribute with a key, as a
-- text or as a whole number.
pub data TestView : Type 0 where
  error : TestView
  root : TestView
  name : TextSign → List ℕ → TestView
  service : TextSign → List ℕ → TestView
  duration : Order → ℕ → TestView
  attribute : List ℕ → TextSign → List ℕ → TestView
  number : List ℕ → Order → ℕ → TestView

-- a test that a span passes, or that it doesn't pass
pub record TermView : Type 0 where
  pub is_negated : Bool
  pub test : TestView

-- what a test is, wherever its texts are
abbrev pub test_view : {A : Type 0} → Test A → TestView
test_view tests.Error = error
test_view tests.Root = root
test_view (tests.Name sign text) = name sign text.items
test_view (tests.Service sign text) = service sign text.items
test_view (tests.Duration order nanos) = duration order nanos
test_view (tests.Attribute key sign value) = attribute key.items sign value.items
test_view (tests.Number key order value) = number key.items order value

abbrev pub term_view : {A : Type 0} → Term A → TermView
term_view term = record { is_negated = term.is_negated; test = test_view term.test }

abbrev pub terms_view : {A : Type 0} → List (Term A) → List TermView
terms_view terms = map term_view terms
