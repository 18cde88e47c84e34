-- Lists with more elements, what each of a list is, and how many tickets are between two.
use Rattle.std.proofs.Common.{◌≡◌, ℕ, zero, suc, ◌+◌, ◌<◌, List, [], ◌∷◌, ◌++◌, length, drop, sym}
use Rattle.std.proofs.Common.{refl, ap, ◌∙◌, subst, arith}
use Rattle.std.specs.Prelude.{IsPermutation, filter_map, Option, None, cond, nat_le, nat_lt, ◌&&◌}
use Rattle.std.specs.List.{AllByRecursion}
use Rattle.std.proofs.lemmas.Bool.{le-leb, lt-ltb}
use Rattle.std.proofs.lemmas.List.{append_assoc}
use Rattle.std.proofs.lemmas.List.Elements.{filter_map-append}
use Rattle.std.proofs.lemmas.List.Sums.{sum_by-append, sum_by-cons}
use Rattle.std.proofs.lemmas.List.Sorted.{IsPermutation-trans, IsPermutation-append_left}
use Rattle.std.proofs.lemmas.List.Sorted.{IsPermutation-append_right, IsPermutation-append_comm}
use Rattle.std.proofs.lemmas.List.Sorted.{sum_by-IsPermutation}
use Rattle.account_book.specs.Accounts.{Replaces}
use Rattle.model_span.specs.Spans.{SpanData}
use Rattle.model_processor.specs.WorkerClauses.{AreFrom, count_between}

-- ---- elements

-- Elements that one list has more are those that it has more with other elements after it.
pub grown_between : {X : Type 0} (xs xs' more others : List X) → IsPermutation xs' (xs ++ more)
    → IsPermutation (xs' ++ others) ((xs ++ others) ++ more)
grown_between {X} xs xs' more others grown =
    let a = IsPermutation-append_left others xs' (xs ++ more) grown in
    let b : IsPermutation (xs ++ (more ++ others)) (xs ++ (others ++ more)) =
    IsPermutation-append_right xs (more ++ others) (others ++ more)
    (IsPermutation-append_comm more others) in
    let d : IsPermutation ((xs ++ more) ++ others) ((xs ++ others) ++ more) =
    subst (λ (l : List X). IsPermutation l ((xs ++ others) ++ more))
    (sym (append_assoc xs more others))
    (subst (λ (l : List X). IsPermutation (xs ++ (more ++ others)) l)
    (sym (append_assoc xs others more)) b) in
    IsPermutation-trans (xs' ++ others) ((xs ++ more) ++ others) ((xs ++ others) ++ more) a d

-- ---- each

-- A property of all elements of a list holds of all that are left after a dropped front.
pub each_drop : {X : Type 0} (P : X → Type 0) (n : ℕ) (xs : List X) → AllByRecursion P xs
    → AllByRecursion P (drop n xs)
each_drop P zero xs all = all
each_drop P (suc n) [] all = tt
each_drop P (suc n) (x ∷ xs) all = each_drop P n xs all.1

-- ---- one account changes

module _ {V W : Type 0} where
  -- An account of another kind may change, and those of this kind stay the same.
  pub part_same : (part : V → Option W) (old : List V) (v w : V) (new : List V)
      → Replaces old v w new → part v ≡ None → part w ≡ None
      → filter_map part new ≡ filter_map part old
  part_same part old v w new r none none' =
      ap (filter_map part) r.3 ∙ filter_map-append part r.0 (w ∷ r.1)
      ∙ ap (λ (ws : List W). filter_map part r.0 ++ ws) (skip w none' ∙ sym (skip v none))
      ∙ sym (filter_map-append part r.0 (v ∷ r.1)) ∙ sym (ap (filter_map part) r.2)
    where
      skip : (x : V) → part x ≡ None → filter_map part (x ∷ r.1) ≡ filter_map part r.1
      skip x is = rw is refl

-- ---- how many tickets are between

-- Spans in another order have as many tickets between two numbers.
pub between-same : (from upto : ℕ) (xs ys : List SpanData) → IsPermutation xs ys
    → count_between from upto xs ≡ count_between from upto ys
between-same from upto xs ys same =
    sym (sum_by-IsPermutation
    (λ (s : SpanData). cond (nat_le from s.ticket && nat_lt s.ticket upto) 1 0) xs ys same)

-- The tickets of two lists between two numbers are as many as those of each list together.
pub between-append : (from upto : ℕ) (xs ys : List SpanData)
    → count_between from upto (xs ++ ys) ≡ count_between from upto xs + count_between from upto ys
between-append from upto xs ys =
    sum_by-append (λ (s : SpanData). cond (nat_le from s.ticket && nat_lt s.ticket upto) 1 0) xs ys

-- All spans of a list are counted where all their tickets are between the two numbers.
pub between-all : (from upto : ℕ) (xs : List SpanData) → AreFrom from xs
    → AllByRecursion (λ (s : SpanData). s.ticket < upto) xs → count_between from upto xs ≡ length xs
between-all from upto [] a b = refl
between-all from upto (x ∷ xs) a b =
    let one : ◌≡◌ {A = ℕ} (cond (nat_le from x.ticket && nat_lt x.ticket upto) 1 0) 1 =
    rw (le-leb from x.ticket a.0, lt-ltb x.ticket upto b.0) refl in
    let rest = between-all from upto xs a.1 b.1 in
    let e : 1 + length xs ≡ suc (length xs) = omega arith in
    sum_by-cons (λ (s : SpanData). cond (nat_le from s.ticket && nat_lt s.ticket upto) 1 0) x xs
    ∙ (λ j. one j + rest j) ∙ e
