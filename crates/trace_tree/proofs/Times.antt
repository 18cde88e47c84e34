-- How often a number is in a list.
use Rattle.std.proofs.Common.{◌≡◌, sym, ◌∙◌, ap, subst, refl, ℕ, zero, suc, ◌+◌, ◌<◌, ◌≤◌, inl, inr}
use Rattle.std.proofs.Common.{Bool, true, false, cond, eqb, ◌||◌, List, [], ◌∷◌, ◌++◌, arith}
use Rattle.std.proofs.Common.{filter}
use Rattle.std.specs.List.{range_with_len, sum_by, AllByRecursion as Each}
use Rattle.std.specs.List.Sorted.{IsPermutation}
use Rattle.std.proofs.lemmas.Bool.{cases_eq, cases_Bool, eq-eqb, ne_eqb, cond-true, cond-false}
use Rattle.std.proofs.lemmas.Bool.{or_left, or_right, or_from, both_ways}
use Rattle.std.proofs.lemmas.List.Recursion.{is_count_by}
use Rattle.std.proofs.lemmas.List.Sorted.{sum_by-IsPermutation, IsPermutation-refl}
use Rattle.std.proofs.lemmas.List.Sorted.{IsPermutation-cons, IsPermutation-trans}
use Rattle.std.proofs.lemmas.List.Sorted.{IsPermutation-sym, IsPermutation-middle}
use Rattle.trace_tree.specs.Order.{ArePlaces}

abbrev pub times : ℕ → List ℕ → ℕ
times k [] = 0
times k (x ∷ xs) = cond (eqb x k) (1 + times k xs) (times k xs)

-- A number is once more in a list with itself in front.
pub times-same : (k x : ℕ) (xs : List ℕ) → x ≡ k → times k (x ∷ xs) ≡ 1 + times k xs
times-same k x xs e = cond-true (eqb x k) (1 + times k xs) (times k xs) (eq-eqb x k e)

-- A number is as often in a list with another number in front.
pub times-other : (k x : ℕ) (xs : List ℕ) → (x ≡ k → ⊥) → times k (x ∷ xs) ≡ times k xs
times-other k x xs ne = cond-false (eqb x k) (1 + times k xs) (times k xs) (ne_eqb x k ne)

-- A number is in a joined list as often as in both parts together.
pub times-append : (k : ℕ) (xs ys : List ℕ) → times k (xs ++ ys) ≡ times k xs + times k ys
times-append k [] ys = omega arith
times-append k (x ∷ xs) ys =
    let more = times-append k xs ys in
    elim (cases_eq x k) [
      | inl e ↦
          let a = times-same k x (xs ++ ys) e in
          let b = times-same k x xs e in
          omega arith
      | inr ne ↦
          let a = times-other k x (xs ++ ys) ne in
          let b = times-other k x xs ne in
          omega arith
    ]

counted : (k : ℕ) (xs : List ℕ) → times k xs ≡ sum_by (λ x. cond (eqb x k) 1 0) xs
counted k xs = is_count_by (times k) (λ x. eqb x k) refl (λ x ys. refl) xs

-- A number is as often in a list as in any other order of it.
pub times-permutation : (k : ℕ) (xs ys : List ℕ) → IsPermutation xs ys → times k ys ≡ times k xs
times-permutation k xs ys h =
    counted k ys ∙ sum_by-IsPermutation (λ x. cond (eqb x k) 1 0) xs ys h ∙ sym (counted k xs)

not_above : (k a : ℕ) → k < a → a ≡ k → ⊥
not_above k a h e = omega arith

not_below : (a k : ℕ) → a < k → a ≡ k → ⊥
not_below a k h e = omega arith

no_room : (a k : ℕ) → a ≤ k → k < a + 0 → ⊥
no_room a k h g = omega arith

below_range : (a n k : ℕ) → k < a → times k (range_with_len a n) ≡ 0
below_range a zero k h = refl
below_range a (suc n) k h =
    let more : k < a + 1 = omega arith in
    let apart : a ≡ k → ⊥ = λ e. not_above k a h e in
    times-other k a (range_with_len (a + 1) n) apart ∙ below_range (a + 1) n k more

past_range : (a n k : ℕ) → a + n ≤ k → times k (range_with_len a n) ≡ 0
past_range a zero k h = refl
past_range a (suc n) k h =
    let more : a + 1 + n ≤ k = omega arith in
    let less : a < k = omega arith in
    times-other k a (range_with_len (a + 1) n) (λ e. not_below a k less e)
    ∙ past_range (a + 1) n k more

in_range : (a n k : ℕ) → a ≤ k → k < a + n → times k (range_with_len a n) ≡ 1
in_range a zero k h g = absurd (no_room a k h g)
in_range a (suc n) k h g = elim (cases_eq a k) [
  | inl e ↦
      let less : k < a + 1 = omega arith in
      times-same k a (range_with_len (a + 1) n) e ∙ ap (λ m. 1 + m) (below_range (a + 1) n k less)
  | inr ne ↦
      let up : a + 1 ≤ k = omega arith in
      let less : k < a + 1 + n = omega arith in
      times-other k a (range_with_len (a + 1) n) ne ∙ in_range (a + 1) n k up less
]

module _ (n : ℕ) (places : List ℕ) (all : ArePlaces n places) where
  -- Each place of a list is once among all places.
  pub times-place : (k : ℕ) → k < n → times k places ≡ 1
  times-place k within =
      let low : 0 ≤ k = omega arith in
      let high : k < 0 + n = omega arith in
      times-permutation k (range_with_len 0 n) places all ∙ in_range 0 n k low high

  -- A number past the end of a list isn't among its places.
  pub times-past : (k : ℕ) → n ≤ k → times k places ≡ 0
  times-past k past =
      let high : 0 + n ≤ k = omega arith in
      times-permutation k (range_with_len 0 n) places all ∙ past_range 0 n k high

-- A number that fails a test isn't among the numbers that pass it.
pub times-filter_out : (p : ℕ → Bool) (k : ℕ) → p k ≡ false → (xs : List ℕ)
    → times k (filter p xs) ≡ 0
times-filter_out p k fails [] = refl
times-filter_out p k fails (x ∷ xs) = elim (cases_Bool (p x)) [
  | inl pass ↦
      let apart : x ≡ k → ⊥ = λ e. both_ways (p k) fails (subst (λ y. p y ≡ true) e pass) in
      ap (times k) (cond-true (p x) (x ∷ filter p xs) (filter p xs) pass)
      ∙ times-other k x (filter p xs) apart ∙ times-filter_out p k fails xs
  | inr miss ↦
      ap (times k) (cond-false (p x) (x ∷ filter p xs) (filter p xs) miss)
      ∙ times-filter_out p k fails xs
]

-- A filter whose test no item passes leaves no item.
pub filter_none : (p : ℕ → Bool) (xs : List ℕ) → Each (λ k. p k ≡ false) xs → filter p xs ≡ []
filter_none p [] all = refl
filter_none p (x ∷ xs) all =
    cond-false (p x) (x ∷ filter p xs) (filter p xs) all.0 ∙ filter_none p xs all.1

-- The numbers that pass either of two exclusive tests are those of the one and of the other.
pub filter_split : (w c v : ℕ → Bool) → ((k : ℕ) → w k ≡ (c k || v k))
    → ((k : ℕ) → c k ≡ true → v k ≡ false)
    → (xs : List ℕ) → IsPermutation (filter w xs) (filter c xs ++ filter v xs)
filter_split w c v each apart [] = IsPermutation-refl []
filter_split w c v each apart (x ∷ xs) =
    let more = filter_split w c v each apart xs in
    elim (cases_Bool (c x)) [
      | inl is_c ↦
          let is_w : w x ≡ true = each x ∙ or_left (c x) (v x) is_c in
          let no_v : v x ≡ false = apart x is_c in
          rw (is_c, no_v, is_w)
          (IsPermutation-cons x (filter w xs) (filter c xs ++ filter v xs) more)
      | inr no_c ↦ elim (cases_Bool (v x)) [
        | inl is_v ↦
            let is_w : w x ≡ true = each x ∙ or_right (c x) (v x) is_v in
            rw (no_c, is_v, is_w)
            (IsPermutation-trans (x ∷ filter w xs) (x ∷ (filter c xs ++ filter v xs))
            (filter c xs ++ x ∷ filter v xs)
            (IsPermutation-cons x (filter w xs) (filter c xs ++ filter v xs) more)
            (IsPermutation-sym (filter c xs ++ x ∷ filter v xs) (x ∷ (filter c xs ++ filter v xs))
            (IsPermutation-middle (filter c xs) x (filter v xs))))
        | inr no_v ↦
            let no_w : w x ≡ false = each x ∙ or_from (c x) (v x) no_c no_v in
            rw (no_c, no_v, no_w) more
      ]
    ]
