-- Lists in which each number is as often have the same elements.
use Rattle.std.proofs.Common.{◌≡◌, subst, ap, ◌∙◌, ℕ, ◌+◌, ◌<◌, ◌==◌, arith, List, [], ◌∷◌, Bool}
use Rattle.std.proofs.Common.{true, false, cond, refl}
use Rattle.std.specs.Prelude.{IsPermutation}
use Rattle.std.proofs.lemmas.Bool.{eqb-true, eq-eqb}
use Rattle.std.proofs.lemmas.List.Sums.{sum_by-cons}
use Rattle.std.proofs.lemmas.List.Sorted.{IsPermutation-refl, IsPermutation-sym}
use Rattle.std.proofs.lemmas.List.Sorted.{IsPermutation-trans, IsPermutation-cons}
use Rattle.std.proofs.lemmas.List.Sorted.{IsPermutation-middle, sum_by-IsPermutation}
use Rattle.model_run.specs.Queues.{times}

times-cons : (n x : ℕ) (xs : List ℕ) → times n (x ∷ xs) ≡ cond (x == n) 1 0 + times n xs
times-cons n x xs = sum_by-cons (λ (t : ℕ). cond (t == n) 1 0) x xs

times-own : (x : ℕ) (xs : List ℕ) → times x (x ∷ xs) ≡ 1 + times x xs
times-own x xs = times-cons x x xs ∙ ap (λ b. cond b 1 0 + times x xs) (eq-eqb x x refl)

-- the other elements of a list, where one is taken out
record Without (x : ℕ) (ys : List ℕ) : Type 0 where
  others : List ℕ
  are : IsPermutation ys (x ∷ others)

without : (x : ℕ) (ys : List ℕ) → 0 < times x ys → Without x ys
without x [] l = absurd (omega (arith, l))
without x (y ∷ ys) l = by (y == x) refl (λ k. without x ys k)
  where
    by : (b : Bool) → (y == x) ≡ b → (0 < times x ys → Without x ys) → Without x (y ∷ ys)
    by true e go = record {
      others = ys;
      are =
          subst (λ (n : ℕ). IsPermutation (y ∷ ys) (n ∷ ys)) (eqb-true y x e)
          (IsPermutation-refl (y ∷ ys));
    }
    by false e go =
        let t : times x (y ∷ ys) ≡ 0 + times x ys =
        times-cons x y ys ∙ ap (λ b. cond b 1 0 + times x ys) e in
        let rest : Without x ys = go (omega (arith, t, l)) in
        record {
          others = y ∷ rest.others;
          are =
              IsPermutation-trans (y ∷ ys) (y ∷ x ∷ rest.others) (x ∷ y ∷ rest.others)
              (IsPermutation-cons y ys (x ∷ rest.others) rest.are)
              (IsPermutation-middle (y ∷ []) x rest.others);
        }

-- Two lists in which each number is equally often have the same elements.
pub same-elements : (xs ys : List ℕ) → ((n : ℕ) → times n xs ≡ times n ys) → IsPermutation xs ys
same-elements [] [] e = IsPermutation-refl []
same-elements [] (y ∷ ys) e =
    let t = times-own y ys in let same = e y in absurd (omega (arith, t, same))
same-elements (x ∷ xs) ys e =
    let own = times-own x xs in
    let same = e x in
    let w : Without x ys = without x ys (omega (arith, own, same)) in
    let fewer : (n : ℕ) → times n xs ≡ times n w.others = λ n.
    let a : times n (x ∷ w.others) ≡ times n ys =
    sum_by-IsPermutation (λ (t : ℕ). cond (t == n) 1 0) ys (x ∷ w.others) w.are in
    let b = e n in
    let c = times-cons n x xs in
    let d = times-cons n x w.others in
    omega (arith, a, b, c, d) in
    IsPermutation-trans (x ∷ xs) (x ∷ w.others) ys
    (IsPermutation-cons x xs w.others (same-elements xs w.others fewer))
    (IsPermutation-sym ys (x ∷ w.others) w.are)
