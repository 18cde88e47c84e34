-- What a loop over a list that it owns has done, and what is left.
use Rattle.std.proofs.Common.{◌≡◌, sym, ap, ◌∙◌, ℕ, List, [], ◌∷◌, ◌++◌, length, append-nil, arith}
use Rattle.std.proofs.Common.{refl}

-- The items done, the next item and the rest after it are still the whole list.
pub next_of : {X : Type 0} (done rest rest' all : List X) (x : X) → done ++ rest ≡ all
    → rest ≡ x ∷ rest' → done ++ x ∷ rest' ≡ all
next_of done rest rest' all x h next = ap (λ l. done ++ l) (sym next) ∙ h

-- A rest whose counted length is 0 is empty.
pub none_left : {X : Type 0} (rest : List X) (n : ℕ) → n ≡ 0 → n ≡ length rest → rest ≡ []
none_left [] n z h = refl
none_left (x ∷ rest) n z h = absurd (omega arith)

-- A loop whose rest has length 0 has done the whole list.
pub ended : {X : Type 0} (done rest all : List X) (n : ℕ) → done ++ rest ≡ all → n ≡ 0
    → n ≡ length rest → done ≡ all
ended done rest all n h z counts =
    sym (append-nil done) ∙ ap (λ l. done ++ l) (sym (none_left rest n z counts)) ∙ h
