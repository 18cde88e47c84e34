-- What is cited of outcomes that are given one after the other.
use Rattle.std.proofs.Common.{◌≡◌, ℕ, zero, suc, ◌+◌, ◌<◌, List, [], ◌∷◌, map, drop, length, get_or}
use Rattle.std.proofs.Common.{add-one, ap, sym, arith}

first_of : {T U : Type 0} (view : T → U) (xs : List T) (n : ℕ) (x : T) → n < length xs
    → x ≡ get_or xs n x → drop n (map view xs) ≡ view x ∷ drop (suc n) (map view xs)
first_of view [] n x h is = absurd (omega arith)
first_of view (y ∷ xs) zero x h is = ap (λ z. view z ∷ map view xs) (sym is)
first_of view (y ∷ xs) (suc n) x h is = first_of view xs n x (omega arith) is

-- A list without its first elements begins with the next one.
pub next_first : {T U : Type 0} (view : T → U) (xs : List T) (n : ℕ) (x : T) → n < length xs
    → x ≡ get_or xs n x → drop n (map view xs) ≡ view x ∷ drop (n + 1) (map view xs)
next_first view xs n x h is = rw add-one (first_of view xs n x h is)
