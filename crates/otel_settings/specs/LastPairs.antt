-- What the last pair of a name is.
use Rattle.std.specs.Prelude.{◌≡◌, ◌≢◌, ℕ, List, ◌∷◌, ◌++◌, Some, None}
use Rattle.std.specs.List.{AllByRecursion}
use Rattle.otel_settings.specs.Pairs.{Pairs, last_of}

-- no pair has this name
abbrev pub LacksName : List ℕ → Pairs → Type 0
LacksName name pairs = AllByRecursion (λ p. p.0 ≢ name) pairs

-- the value of a name is that of the last pair with it, and a name that no pair has has none
pub record LastCounts : Type 0 where
  pub last : (name value : List ℕ) (before later : Pairs) → LacksName name later
      → last_of name (before ++ (name, value) ∷ later) ≡ Some value
  pub none : (name : List ℕ) (pairs : Pairs) → LacksName name pairs → last_of name pairs ≡ None
