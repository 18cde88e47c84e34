-- Words in letters of either case.
use Rattle.std.proofs.Common.{◌≡◌, ℕ, List, true, false, IsTrue, refl, sym, ◌∙◌, inl, inr}
use Rattle.std.specs.Prelude.{Bool, ◌↔◌, bytes_eq}
use Rattle.std.proofs.lemmas.Bool.{cases_Bool}
use Rattle.std.proofs.lemmas.Slice.Eq.{bytes_eq-Decides}

-- A Boolean that says whether two lists are equal says whether their bytes are equal.
pub same_words : (r : Bool) (a b : List ℕ) → (IsTrue r ↔ (a ≡ b)) → r ≡ bytes_eq a b
same_words true a b is = sym ((bytes_eq-Decides a b).1 (is.0 refl))
same_words false a b is = elim (cases_Bool (bytes_eq a b)) [
  | inl same ↦ is.1 ((bytes_eq-Decides a b).0 same) ∙ sym same
  | inr differs ↦ sym differs
]
