-- What is true at each place of a list is true of each element.
use Rattle.std.proofs.Common.{ℕ, suc, ◌<◌, List, [], ◌∷◌, length, take, drop, ◌++◌, ◌≡◌}
use Rattle.std.proofs.Common.{slice_index_or, arith}
use Rattle.std.proofs.lemmas.Grind.{common_steps}
use Rattle.std.specs.List.{AllByRecursion}

-- A fact that is true at each place of a list is true of each element.
pub each_of_places : {X : Type 0} (P : X → Type 0) (xs : List X)
    → ((i : ℕ) (d : X) → i < length xs → P (slice_index_or xs i d)) → AllByRecursion P xs
each_of_places P [] at = tt
each_of_places P (x ∷ xs) at =
    (at 0 x (omega arith), each_of_places P xs (λ i d below. at (suc i) d (omega arith)))

-- A list that is written over one of the same length is all that is left.
pub written : {X : Type 0} (xs ys : List X) (n : ℕ) → length ys ≡ length xs → n ≡ length xs
    → take n (ys ++ drop (length ys) xs) ≡ ys
written xs ys n same len = grind (arith, common_steps)
