-- What the proofs here and in the crate above need of truth values and of lists.
use Rattle.std.proofs.Common.{◌≡◌, refl, ap, ℕ, zero, suc, List, [], ◌∷◌, ◌++◌, true, false}
use Rattle.std.proofs.Common.{take, drop}

-- One isn't the other.
pub true-false : true ≡ false → ⊥
true-false e = cc

-- The first ones and the others are all.
pub drop-taken : (n : ℕ) (xs : List (List ℕ)) → take n xs ++ drop n xs ≡ xs
drop-taken zero xs = refl
drop-taken (suc n) [] = refl
drop-taken (suc n) (x ∷ xs) = ap (λ l. x ∷ l) (drop-taken n xs)
