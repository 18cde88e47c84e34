-- That the last pair of a name counts.
use Rattle.std.proofs.Common.{◌≡◌, ℕ, List, [], ◌∷◌, ◌++◌, Some, None, inl, inr, refl}
use Rattle.std.specs.Prelude.{bytes_eq}
use Rattle.std.proofs.lemmas.Bool.{cases_Bool}
use Rattle.std.proofs.lemmas.Slice.Eq.{bytes_eq-Decides}
use Rattle.otel_settings.specs.Pairs.{Pairs, last_of}
use Rattle.otel_settings.specs.LastPairs.{LacksName, LastCounts}

none_named : (name : List ℕ) (pairs : Pairs) → LacksName name pairs → last_of name pairs ≡ None
unfolding last_of
none_named name [] h = refl
none_named name (pair ∷ pairs) h = elim (cases_Bool (bytes_eq pair.0 name)) [
  | inl same ↦ absurd (h.0 ((bytes_eq-Decides pair.0 name).0 same))
  | inr differs ↦ rw (none_named name pairs h.1, differs) refl
]

last_named : (name value : List ℕ) (before later : Pairs) → LacksName name later
    → last_of name (before ++ (name, value) ∷ later) ≡ Some value
unfolding last_of
last_named name value [] later h =
    rw (none_named name later h, (bytes_eq-Decides name name).1 refl) refl
last_named name value (pair ∷ before) later h = rw (last_named name value before later h) refl

-- The last pair of a name is the one that counts.
pub counts : LastCounts
counts = record { last = last_named; none = none_named }
