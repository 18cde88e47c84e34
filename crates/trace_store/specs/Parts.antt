-- How parts are added to traces: first those of new traces, and then the others.
use Rattle.std.specs.Prelude.{◌≡◌, ℕ, List, [], ◌∷◌, ◌++◌, IsSome, MatchOption, nat_eq}
use Rattle.std.specs.List.Sorted.{IsPermutation}
use Rattle.std.specs.Map.{lookup}
use Rattle.trace_store.specs.Traces.{with_parts}

-- the trace of each part is there
abbrev pub AreThere : {S : Type 0} → List (ℕ × List S) → List (ℕ × List S) → Type 0
AreThere traces [] = Unit {0}
AreThere traces (part ∷ parts) = IsSome (lookup (nat_eq part.0) traces) × AreThere traces parts

-- a part of a new trace is the newest trace now, and another one was put to the others
abbrev pub AddsPart : {S : Type 0} → List (ℕ × List S) → List (ℕ × List S) → List (ℕ × List S)
    → List (ℕ × List S) → ℕ × List S → Type 0
AddsPart old new others others' part = MatchOption (lookup (nat_eq part.0) old)
    ((new ≡ part ∷ old) × (others' ≡ others))
    (λ _. (new ≡ old) × (others' ≡ others ++ part ∷ []))

-- of these parts some were added, as new traces, and the others have traces that are there
pub record ArePartway {S : Type 0} (old parts new others : List (ℕ × List S)) : Type 0 where
  pub news : List (ℕ × List S)
  pub added : List (ℕ × List S)
  pub in_front : new ≡ news ++ old
  pub are_added : new ≡ with_parts old added
  pub order : IsPermutation parts (added ++ others)
  pub there : AreThere new others
