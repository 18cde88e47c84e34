-- What a write changes of a list, and of how many of it pass a test.
use Rattle.std.proofs.Common.{◌≡◌, ◌≢◌, sym, subst, ℕ, ◌<◌, ◌⊎◌, inl, inr, List, length, set}
use Rattle.std.proofs.Common.{get_or, get_or-set_same, get_or-set_other, Bool, true, false, cond}
use Rattle.std.proofs.Common.{count_by, arith}
use Rattle.std.proofs.lemmas.Bool.{cases_eq, cond-true, cond-false}
use Rattle.std.proofs.lemmas.List.Sums.{sum_by-set}

-- A write to a list puts the new item in its place and leaves all other places as they were.
pub set_cases : {X : Type 0} (xs : List X) (i : ℕ) (a d : X) → i < length xs → (k : ℕ)
    → ((k ≡ i) × (get_or (set xs i a) k d ≡ a))
    ⊎ ((k ≢ i) × (get_or (set xs i a) k d ≡ get_or xs k d))
set_cases {X} xs i a d within k =
    let here : get_or (set xs i a) i d ≡ a = get_or-set_same xs i a d within in
    elim (cases_eq k i) [
      | inl same ↦ inl (same, subst (λ j. get_or (set xs i a) j d ≡ a) (sym same) here)
      | inr other ↦ inr (other, get_or-set_other xs i k a d other)
    ]

-- A write that replaces an item that passes a test by one that doesn't leaves fewer that pass.
pub fewer_pass : {X : Type 0} (p : X → Bool) (xs : List X) (i : ℕ) (a d : X) → i < length xs
    → p (get_or xs i d) ≡ true → p a ≡ false
    → count_by p (set xs i a) < count_by p xs
fewer_pass p xs i a d within passes fails =
    let both = sum_by-set (λ x. cond (p x) 1 0) xs i a d within in
    let old : ◌≡◌ {A = ℕ} (cond {A = ℕ} (p (get_or xs i d)) 1 0) 1 =
    cond-true (p (get_or xs i d)) 1 0 passes in
    let new : ◌≡◌ {A = ℕ} (cond {A = ℕ} (p a) 1 0) 0 = cond-false (p a) 1 0 fails in
    omega arith
