-- Lists with the same elements, with more of them, and numbers that rise.
use Rattle.std.proofs.Common.{◌≡◌, ℕ, zero, suc, ◌+◌, ◌<◌, ◌≤◌, List, [], ◌∷◌, ◌++◌, sym, ap, ◌∙◌}
use Rattle.std.proofs.Common.{subst, arith}
use Rattle.std.specs.Prelude.{IsPermutation}
use Rattle.std.specs.List.{AllByRecursion, range_with_len}
use Rattle.std.proofs.lemmas.List.{append_assoc}
use Rattle.std.proofs.lemmas.List.Sorted.{IsPermutation-sym, IsPermutation-trans}
use Rattle.std.proofs.lemmas.List.Sorted.{IsPermutation-append_left, IsPermutation-append_right}
use Rattle.std.proofs.lemmas.List.Sorted.{IsPermutation-append_comm, sum_by-IsPermutation}
use Rattle.account_book.proofs.Facts.{each_append, each_map}
use Rattle.model_span.specs.Dropped.{Entry, Reason, count_of_reason}
use Rattle.model_desk.specs.Desks.{drop_counts}
use Rattle.model_processor.specs.Passes.{Rises}
use Rattle.model_processor.specs.PassClauses.{numbers_below}

-- ---- elements

-- Names are in two lists together still where some are added to the first and some move to the
-- second.
pub names_more : {X : Type 0} (all all' ds below below' out out' ps : List X)
    → IsPermutation all' (all ++ ds) → IsPermutation out' (out ++ ps)
    → IsPermutation all (below ++ out) → IsPermutation (ds ++ below) (below' ++ ps)
    → IsPermutation all' (below' ++ out')
names_more {X} all all' ds below below' out out' ps grown gone same step =
    let a : IsPermutation all' (ds ++ all) =
    IsPermutation-trans all' (all ++ ds) (ds ++ all) grown (IsPermutation-append_comm all ds) in
    let b : IsPermutation (ds ++ all) ((ds ++ below) ++ out) =
    subst (λ (xs : List X). IsPermutation (ds ++ all) xs) (sym (append_assoc ds below out))
    (IsPermutation-append_right ds all (below ++ out) same) in
    let d : IsPermutation ((ds ++ below) ++ out) ((below' ++ ps) ++ out) =
    IsPermutation-append_left out (ds ++ below) (below' ++ ps) step in
    let e : IsPermutation (ps ++ out) out' =
    IsPermutation-trans (ps ++ out) (out ++ ps) out' (IsPermutation-append_comm ps out)
    (IsPermutation-sym out' (out ++ ps) gone) in
    let f : IsPermutation ((below' ++ ps) ++ out) (below' ++ out') =
    subst (λ (xs : List X). IsPermutation xs (below' ++ out')) (sym (append_assoc below' ps out))
    (IsPermutation-append_right below' (ps ++ out) out' e) in
    IsPermutation-trans all' (ds ++ all) (below' ++ out') a
    (IsPermutation-trans (ds ++ all) ((ds ++ below) ++ out) (below' ++ out') b
    (IsPermutation-trans ((ds ++ below) ++ out) ((below' ++ ps) ++ out) (below' ++ out') d f))

-- Of two lists with the same elements, one has more elements by just those added to the other.
pub same_more : {X : Type 0} (xs xs' more ys : List X) → IsPermutation xs' (xs ++ more)
    → IsPermutation xs ys → IsPermutation xs' (ys ++ more)
same_more xs xs' more ys grown same =
    IsPermutation-trans xs' (xs ++ more) (ys ++ more) grown
    (IsPermutation-append_left more xs ys same)

-- Entries in another order have the same counts of reasons.
pub counts_same : (xs ys : List Entry) → IsPermutation xs ys → drop_counts ys ≡ drop_counts xs
counts_same xs ys same = λ i. record {
  queue_full = of Reason.queue_full i;
  encode_memory = of Reason.encode_memory i;
  too_large = of Reason.too_large i;
  abandoned = of Reason.abandoned i;
}
  where
    of : (r : Reason) → count_of_reason r ys ≡ count_of_reason r xs
    of r = sum_by-IsPermutation _ xs ys same

-- ---- numbers

-- A range with one more number has this number at its end.
pub range-more : (a n : ℕ) → range_with_len a (suc n) ≡ range_with_len a n ++ (a + n) ∷ []
range-more a zero = ap (λ (k : ℕ). k ∷ []) (let e : a ≡ a + 0 = omega arith in e)
range-more a (suc n) =
    ap (λ (ns : List ℕ). a ∷ ns)
    (range-more (a + 1) n
    ∙ ap (λ (k : ℕ). range_with_len (a + 1) n ++ k ∷ [])
    (let e : (a + 1) + n ≡ a + suc n = omega arith in e))

-- The numbers below the next bound are those below the bound, and the bound itself.
pub below-more : (n : ℕ) → numbers_below (n + 1) ≡ numbers_below n ++ n ∷ []
below-more n =
    ap numbers_below (let e : n + 1 ≡ suc n = omega arith in e) ∙ range-more 0 n
    ∙ ap (λ (k : ℕ). numbers_below n ++ k ∷ []) (let e : 0 + n ≡ n = omega arith in e)

-- Numbers below a bound are below each greater bound.
pub still-below : (ts : List ℕ) (m n : ℕ) → m ≤ n → AllByRecursion (λ t. t < m) ts
    → AllByRecursion (λ t. t < n) ts
still-below ts m n le all = each_map (λ t. t < m) (λ t. t < n) ts (λ t lt. omega arith) all

-- Numbers that rise below a bound, followed by numbers that rise from it on, rise.
pub rises-append : (ts us : List ℕ) (n : ℕ) → Rises ts → AllByRecursion (λ t. t < n) ts → Rises us
    → AllByRecursion (λ u. n ≤ u) us → Rises (ts ++ us)
rises-append [] us n r below s above = s
rises-append (t ∷ ts) us n r below s above = (
  each_append (λ u. t < u) ts us r.0
      (each_map (λ u. n ≤ u) (λ u. t < u) us (λ u from. let b = below.0 in omega arith) above),
  rises-append ts us n r.1 below.1 s above,
)
