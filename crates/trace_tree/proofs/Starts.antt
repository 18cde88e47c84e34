-- The order of spans by their starts.
use Rattle.std.proofs.Common.{◌≡◌, ◌≢◌, sym, ◌∙◌, ap, subst, refl, ℕ, zero, suc, ◌+◌, ◌<◌, ◌≤◌, inl}
use Rattle.std.proofs.Common.{inr, Bool, true, false, eqb, ltb, ◌||◌, ◌&&◌, List, [], ◌∷◌, ◌++◌}
use Rattle.std.proofs.Common.{length, get_or, map, arith, All, AllPairs, Ordering}
use Rattle.std.specs.List.{AllByRecursion as Each, range_with_len}
use Rattle.std.specs.List.Sorted.{IsPermutation, IsSortedBy}
use Rattle.std.specs.Ordering.{nat_cmp, is_lt, ordering_then}
use Rattle.std.specs.Cmp.{IsTotalOrder}
use Rattle.std.proofs.lemmas.Cmp.{then_total, on_total, nat_cmp_total}
use Rattle.std.proofs.lemmas.Bool.{cases_eq, cases_lt, cases_order, lt-ltb, le-ltb, eq-eqb, or_left}
use Rattle.std.proofs.lemmas.Bool.{or_right, and_from, true≢false}
use Rattle.std.proofs.lemmas.List.{get_or-map, get_or_default, map_push, length-map}
use Rattle.std.proofs.lemmas.List.FromFn.{get_or-range_with_len}
use Rattle.std.proofs.lemmas.List.Sorted.{ranks_by, sorted_far, IsPermutation-map, All-permutation}
use Rattle.trace_tree.specs.Order.{start_at, precedes, ArePlaces, places_of, AreStarts, AreByStart}
use Rattle.trace_tree.specs.declared.span.TreeSpan.{TreeSpan}
use Rattle.trace_tree.proofs.Times.{times, times-same, times-other, times-place, times-past}
use Rattle.trace_tree.proofs.Eaches.{Pairs, Pairs-map, Pairs-from_All, All-from_Pairs}

abbrev pub Start : Type 0
Start = ℕ × ℕ

-- the order of pairs
abbrev pub start_cmp : Start → Start → Ordering
start_cmp x y = ordering_then (nat_cmp x.0 y.0) (nat_cmp x.1 y.1)

abbrev pub before : Start → Start → Bool
before x y = is_lt (start_cmp x y)

-- the one isn't after the other, and has another place
earlier : (p q m n : ℕ) → is_lt (ordering_then (nat_cmp q p) (nat_cmp n m)) ≡ false → m ≢ n
    → (ltb p q || (eqb p q && ltb m n)) ≡ true
earlier p q m n e apart = elim (cases_order p q) [
  | inl same ↦
      let places : is_lt (nat_cmp n m) ≡ false =
      rw (le-ltb q p (at_least q p (sym same)), eq-eqb q p (sym same)) at e in
      let less : m < n = smaller places in
      or_right (ltb p q) (eqb p q && ltb m n)
      (and_from (eqb p q) (ltb m n) (eq-eqb p q same) (lt-ltb m n less))
  | inr other ↦ elim other [
    | inl less ↦ or_left (ltb p q) (eqb p q && ltb m n) (lt-ltb p q less)
    | inr more ↦ absurd (true≢false (rw (lt-ltb q p more) at e))
  ]
]
  where
    at_least : (x y : ℕ) → x ≡ y → y ≤ x
    at_least x y e = omega arith

    smaller : is_lt (nat_cmp n m) ≡ false → m < n
    smaller f = elim (cases_order m n) [
      | inl same ↦ absurd (apart same)
      | inr other ↦ elim other [
        | inl less ↦ less
        | inr more ↦ absurd (true≢false (rw (lt-ltb n m more) at f))
      ]
    ]

-- where no number is twice, each and any later one are different
all_other : (x : ℕ) (xs : List ℕ) → times x xs ≡ 0 → Each (λ y. x ≢ y) xs
all_other x [] e = tt
all_other x (y ∷ xs) e = elim (cases_eq y x) [
  | inl same ↦ absurd (never (times x xs) (sym (times-same x y xs same) ∙ e))
  | inr other ↦ (λ g. other (sym g), all_other x xs (sym (times-other x y xs other) ∙ e))
]
  where
    never : (n : ℕ) → 1 + n ≡ 0 → ⊥
    never n e = omega arith

all_distinct : (xs : List ℕ) → ((k : ℕ) → times k xs ≤ 1) → Pairs (λ x y. x ≢ y) xs
all_distinct [] once = tt
all_distinct (x ∷ xs) once = (all_other x xs rest, all_distinct xs (λ k. fewer k))
  where
    rest : times x xs ≡ 0
    rest = let a = times-same x x xs refl in let b = once x in omega arith

    fewer : (k : ℕ) → times k xs ≤ 1
    fewer k = let b = once k in elim (cases_eq x k) [
      | inl same ↦ let a = times-same k x xs same in omega arith
      | inr other ↦ let a = times-other k x xs other in omega arith
    ]

places_once : (n : ℕ) (places : List ℕ) → ArePlaces n places → (k : ℕ) → times k places ≤ 1
places_once n places all k = elim (cases_lt k n) [
  | inl h ↦ let a = times-place n places all k h in omega arith
  | inr h ↦ let a = times-past n places all k h in omega arith
]

module _ (spans : List TreeSpan) (old new : List Start) (starts : AreStarts spans old)
    (moved : IsPermutation old new) where
  all_places : ArePlaces (length spans) (places_of new)
  all_places =
      subst (λ l. IsPermutation l (places_of new)) starts.places
      (IsPermutation-map (λ (s : Start). s.1) old new moved)

  each_start : All (λ (s : Start). s.0 ≡ start_at spans s.1) new
  each_start = All-permutation (λ (s : Start). s.0 ≡ start_at spans s.1) old new moved starts.each

  distinct : AllPairs (λ x y. x ≢ y) (places_of new)
  distinct =
      All-from_Pairs (λ x y. x ≢ y) (places_of new)
      (all_distinct (places_of new) (places_once (length spans) (places_of new) all_places))

  -- The sorted starts of spans give the places of the spans by their start.
  pub sorted_by_start : IsSortedBy before new → AreByStart spans (places_of new)
  sorted_by_start sorted = record {
    all = all_places;
    ordered = All-from_Pairs (λ i j. precedes spans i j ≡ true) (places_of new)
        (Pairs-map (λ i j. precedes spans i j ≡ true) (λ (s : Start). s.1) new
        (Pairs-from_All (λ (a b : Start). precedes spans a.1 b.1 ≡ true) new in_order));
  }
    where
      order : IsTotalOrder start_cmp
      order =
          then_total (on_total (λ (s : Start). s.0) nat_cmp_total)
          (on_total (λ (s : Start). s.1) nat_cmp_total)

      in_order : AllPairs (λ (a b : Start). precedes spans a.1 b.1 ≡ true) new
      in_order i j d less within =
          let upto : i ≤ j = omega arith in
          let first : i < length new = omega arith in
          let far =
          sorted_far before (ranks_by order (λ (s : Start). s)) new sorted i j d upto within in
          let size = length-map new (λ (s : Start). s.1) in
          let long : j < length (places_of new) = omega arith in
          let one = get_or-map (λ (s : Start). s.1) new i d d.1 first in
          let two = get_or-map (λ (s : Start). s.1) new j d d.1 within in
          let apart : (get_or new i d).1 ≢ (get_or new j d).1 =
          λ e. distinct i j d.1 less long (one ∙ e ∙ sym two) in
          by_start (get_or new i d) (get_or new j d) (each_start i d first)
          (each_start j d within) far apart
        where
          by_start : (a b : Start) → a.0 ≡ start_at spans a.1 → b.0 ≡ start_at spans b.1
              → before b a ≡ false → a.1 ≢ b.1 → precedes spans a.1 b.1 ≡ true
          by_start a b ea eb far apart =
              subst (λ p.
              (ltb p (start_at spans b.1) || (eqb p (start_at spans b.1) && ltb a.1 b.1)) ≡ true)
              ea
              (subst (λ q. (ltb a.0 q || (eqb a.0 q && ltb a.1 b.1)) ≡ true) eb
              (earlier a.0 b.0 a.1 b.1 far apart))

-- ---- before the sort

-- A range that is longer by one ends with the number after the others.
pub range_more : (a n : ℕ) → range_with_len a (suc n) ≡ range_with_len a n ++ (a + n) ∷ []
range_more a zero = ap (λ k. k ∷ []) (omega arith)
range_more a (suc n) =
    ap (λ l. a ∷ l)
    (range_more (a + 1) n ∙ ap (λ k. range_with_len (a + 1) n ++ k ∷ []) (omega arith))

one_more : (i : ℕ) → i + 1 ≡ suc i
one_more i = omega arith

none_more : (i : ℕ) → 0 + i ≡ i
none_more i = omega arith

-- The start of one more span, in the next place, makes the places one more.
pub places_next : (starts : List Start) (i start : ℕ) → places_of starts ≡ range_with_len 0 i
    → places_of (starts ++ (start, i) ∷ []) ≡ range_with_len 0 (i + 1)
places_next starts i start is =
    map_push (λ (s : Start). s.1) starts (start, i)
    ∙ ap (λ l. l ++ i ∷ []) is
    ∙ sym (ap (λ n. range_with_len 0 n) (one_more i) ∙ range_more 0 i
    ∙ ap (λ k. range_with_len 0 i ++ k ∷ []) (none_more i))

-- Starts in the order of their places are those of the spans if they are so one by one.
pub starts_each : (spans : List TreeSpan) (starts : List Start)
    → places_of starts ≡ range_with_len 0 (length spans)
    → map (λ (s : Start). s.0) starts ≡ map (λ (s : TreeSpan). s.start_time_unix_nano) spans
    → AreStarts spans starts
starts_each spans starts places same = record {
  places = places;
  each = λ i d within.
      let small : i < length spans = omega (
        arith,
        within,
        length-map starts (λ (s : Start). s.0),
        ap length same,
        length-map spans (λ (s : TreeSpan). s.start_time_unix_nano),
      ) in
      sym (get_or-map (λ (s : Start). s.0) starts i d d.0 within)
      ∙ at i d.0 small
      ∙ ap (start_at spans)
      (sym (sym (get_or-map (λ (s : Start). s.1) starts i d d.1 within)
      ∙ ap (λ l. get_or l i d.1) places ∙ get_or-range_with_len 0 (length spans) i d.1 small
      ∙ none_more i));
}
  where
    at : (i d : ℕ) → i < length spans
        → get_or (map (λ (s : Start). s.0) starts) i d ≡ start_at spans i
    at i d small =
        let long : i < length (map (λ (s : TreeSpan). s.start_time_unix_nano) spans) =
        subst (λ n. i < n) (sym (length-map spans (λ (s : TreeSpan). s.start_time_unix_nano))) small
        in
        ap (λ l. get_or l i d) same
        ∙ get_or_default (map (λ (s : TreeSpan). s.start_time_unix_nano) spans) i d 0 long
