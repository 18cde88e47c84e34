-- Which traces are in front once parts were added, and that these are kept.
use Rattle.std.proofs.Common.{◌≡◌, ℕ, ◌+◌, ◌<◌, ◌≤◌, List, [], ◌∷◌, ◌++◌, length, take, drop}
use Rattle.std.proofs.Common.{nat_eq}
use Rattle.std.proofs.Common.{Option, Some, None, IsSome, refl, sym, ◌∙◌, ap, inl, inr, eq-eqb}
use Rattle.std.proofs.Common.{append_assoc, arith}
use Rattle.std.proofs.lemmas.Bool.{cases_Bool}
use Rattle.std.proofs.lemmas.Bool.Decides.{nat_tests}
use Rattle.std.proofs.lemmas.List.{length-append, map-append, take-append-drop, take-append-le}
use Rattle.std.proofs.lemmas.List.{take-map, take_at, take_more}
use Rattle.std.proofs.lemmas.List.Elements.{All-cons, All-nil}
use Rattle.std.proofs.lemmas.List.Sorted.{All-permutation, IsPermutation-map, IsPermutation-sym}
use Rattle.std.proofs.lemmas.List.Sums.{sum_by-append}
use Rattle.std.proofs.Math.ListN.{get_or}
use Rattle.std.specs.Prelude.{is_some, nat_lt, sum_by, unwrap_or}
use Rattle.std.specs.List.Sorted.{IsPermutation}
use Rattle.std.specs.Map.{lookup, remove_entry, values_of}
use Rattle.trace_store.specs.Parts.{AreThere}
use Rattle.trace_store.specs.Stores.{AreNewest, AreWhole, AreWithin}
use Rattle.trace_store.specs.Traces.{byte_count, joined_traces, span_count, spans_of, with_parts}
use Rattle.trace_store.specs.Traces.{with_spans}
use Rattle.trace_store.proofs.PartLemmas.{first_sum, le_all, lookup_other, order_sum, there_after}
use Rattle.trace_store.proofs.PartLemmas.{there_with}
use Rattle.trace_store.proofs.Sums.{sum_last, with_sum}

-- ---- sums

-- The traces of one more part are as many spans or bytes more as that part's trace has with it.
pub joined_more : {S : Type 0} (f : List S → ℕ) (es parts : List (ℕ × List S)) (i : ℕ)
    (p : ℕ × List S)
    → i < length parts → p ≡ get_or parts i p
    → sum_by f (values_of (joined_traces es (take (i + 1) parts)))
    ≡ sum_by f (values_of (joined_traces es (take i parts))) + f (spans_of es p.0 ++ p.1)
joined_more f es parts i p within is =
    sum_last f (joined_traces es (take (i + 1) parts)) (joined_traces es (take i parts)) p.0
    (spans_of es p.0 ++ p.1)
    (ap (joined_traces es) (take_more parts i p within)
    ∙ map-append (λ part. (part.0, spans_of es part.0 ++ part.1)) (take i parts)
    (get_or parts i p ∷ [])
    ∙ ap (λ x. joined_traces es (take i parts) ++ (x.0, spans_of es x.0 ++ x.1) ∷ []) (sym is))

-- The traces of the first parts have no more than those of all parts.
pub joined_le : {S : Type 0} (f : List S → ℕ) (es parts : List (ℕ × List S)) (n : ℕ)
    → sum_by f (values_of (joined_traces es (take n parts)))
    ≤ sum_by f (values_of (joined_traces es parts))
joined_le f es parts n =
    let cut : take n (joined_traces es parts) ≡ joined_traces es (take n parts) =
    take-map (λ part. (part.0, spans_of es part.0 ++ part.1)) n parts in
    omega
    (arith, le_all f (joined_traces es parts) n, ap (λ x. sum_by f (values_of x)) cut)

-- ---- a list in two

module _ {X : Type 0} (k : ℕ) where
  lookup_front : (front back : List (ℕ × X)) (x : X) → lookup (nat_eq k) front ≡ Some x
      → lookup (nat_eq k) (front ++ back) ≡ Some x
  lookup_front [] back x h = cc
  lookup_front (f ∷ front) back x h = elim (cases_Bool (nat_eq k f.0)) [
    | inl t ↦ rw t (rw t at h)
    | inr n ↦ rw n (lookup_front front back x (rw n at h))
  ]

  remove_front : (front back : List (ℕ × X)) (x : X) → lookup (nat_eq k) front ≡ Some x
      → remove_entry (nat_eq k) (front ++ back) ≡ remove_entry (nat_eq k) front ++ back
  remove_front [] back x h = cc
  remove_front (f ∷ front) back x h = elim (cases_Bool (nat_eq k f.0)) [
    | inl t ↦ rw t refl
    | inr n ↦ rw n (ap (λ l. f ∷ l) (remove_front front back x (rw n at h)))
  ]

  lookup_back : (front back : List (ℕ × X)) → lookup (nat_eq k) front ≡ None
      → lookup (nat_eq k) (front ++ back) ≡ lookup (nat_eq k) back
  lookup_back [] back h = refl
  lookup_back (f ∷ front) back h = elim (cases_Bool (nat_eq k f.0)) [
    | inl t ↦ let h' = rw t at h in cc
    | inr n ↦ rw n (lookup_back front back (rw n at h))
  ]

  remove_back : (front back : List (ℕ × X)) → lookup (nat_eq k) front ≡ None
      → remove_entry (nat_eq k) (front ++ back) ≡ front ++ remove_entry (nat_eq k) back
  remove_back [] back h = refl
  remove_back (f ∷ front) back h = elim (cases_Bool (nat_eq k f.0)) [
    | inl t ↦ let h' = rw t at h in cc
    | inr n ↦ rw n (ap (λ l. f ∷ l) (remove_back front back (rw n at h)))
  ]

-- ---- the front

-- In front of all traces are those that were there at the start and those that parts have spans of,
-- which are no more than they are with these.
record IsFront {S : Type 0} (es parts start all : List (ℕ × List S)) : Type 0 where
  pub front : List (ℕ × List S)
  pub back : List (ℕ × List S)
  pub split : all ≡ front ++ back
  pub sums : (f : List S → ℕ) → f [] ≡ 0 → ((a b : List S) → f (a ++ b) ≡ f a + f b)
      → sum_by f (values_of front)
      ≤ sum_by f (values_of start) + sum_by f (values_of (joined_traces es parts))
  pub stay : (k : ℕ) → IsSome (lookup (nat_eq k) start) → IsSome (lookup (nat_eq k) front)
  pub there : AreThere front parts

-- what isn't in front has what it had before
abbrev AreSame : {S : Type 0} → List (ℕ × List S) → List (ℕ × List S) → List (ℕ × List S) → Type 0
AreSame es start back =
    (k : ℕ) → lookup (nat_eq k) start ≡ None → spans_of back k ≡ spans_of es k

first_there : {S : Type 0} (k : ℕ) (spans : List S) (es : List (ℕ × List S))
    → IsSome (lookup (nat_eq k) ((k, spans) ∷ es))
first_there k spans es = rw (eq-eqb k k refl) refl

none_before : {S : Type 0} (es : List (ℕ × List S)) (k j : ℕ) (spans : List S)
    (o : Option (List S))
    → lookup (nat_eq k) es ≡ o → lookup (nat_eq k) (with_spans es j spans) ≡ None
    → lookup (nat_eq k) es ≡ None
none_before es k j spans None h none = h
none_before es k j spans (Some x) h none =
    let some = there_with es k j spans (ap is_some h) in cc (some, ap is_some none)

same_with : {S : Type 0} (es start back : List (ℕ × List S)) (p : ℕ × List S)
    → AreSame es start back
    → AreSame es (with_spans start p.0 p.1) back
same_with es start back p same k none =
    same k (none_before start k p.0 p.1 (lookup (nat_eq k) start) refl none)

same_after : {S : Type 0} (es start back : List (ℕ × List S)) (j : ℕ) (spans : List S)
    → AreSame es start back
    → AreSame es ((j, spans) ∷ start) (remove_entry (nat_eq j) back)
same_after es start back j spans same k none = elim (cases_Bool (nat_eq k j)) [
  | inl t ↦ let none' = rw t at none in cc
  | inr n ↦
      ap (λ o. unwrap_or o []) (lookup_other k j back n) ∙ same k (rw n at none)
]

front_by : {S : Type 0} (es start back : List (ℕ × List S)) (p : ℕ × List S)
    (parts : List (ℕ × List S)) (o : Option (List S))
    → lookup (nat_eq p.0) start ≡ o → AreSame es start back
    → ((start' back' : List (ℕ × List S)) → AreSame es start' back'
    → IsFront es parts start' (with_parts (start' ++ back') parts))
    → IsFront es (p ∷ parts) start (with_parts (start ++ back) (p ∷ parts))
front_by es start back p parts (Some x) h same rest =
    let moved : with_spans (start ++ back) p.0 p.1 ≡ with_spans start p.0 p.1 ++ back =
    ap (λ o. (p.0, unwrap_or o [] ++ p.1) ∷ remove_entry (nat_eq p.0) (start ++ back))
    (lookup_front p.0 start back x h ∙ sym h)
    ∙ ap (λ l. (p.0, spans_of start p.0 ++ p.1) ∷ l) (remove_front p.0 start back x h) in
    let r = rest (with_spans start p.0 p.1) back (same_with es start back p same) in
    record {
      front = r.front;
      back = r.back;
      split = ap (λ l. with_parts l parts) moved ∙ r.split;
      sums = λ f none adds.
          omega (
            arith,
            r.sums f none adds,
            with_sum f start p.0 p.1 none (adds (spans_of start p.0) p.1),
            first_sum f (p.0, spans_of es p.0 ++ p.1) (joined_traces es parts),
            adds (spans_of es p.0) p.1,
          );
      stay = λ k some. r.stay k (there_with start k p.0 p.1 some);
      there = (
        r.stay p.0 (first_there p.0 (spans_of start p.0 ++ p.1)
            (remove_entry (nat_eq p.0) start)),
        r.there,
      );
    }
front_by es start back p parts None h same rest =
    let spans = spans_of back p.0 ++ p.1 in
    let moved : with_spans (start ++ back) p.0 p.1
    ≡ ((p.0, spans) ∷ start) ++ remove_entry (nat_eq p.0) back =
    ap (λ o. (p.0, unwrap_or o [] ++ p.1) ∷ remove_entry (nat_eq p.0) (start ++ back))
    (lookup_back p.0 start back h)
    ∙ ap (λ l. (p.0, spans) ∷ l) (remove_back p.0 start back h) in
    let r =
    rest ((p.0, spans) ∷ start) (remove_entry (nat_eq p.0) back)
    (same_after es start back p.0 spans same) in
    record {
      front = r.front;
      back = r.back;
      split = ap (λ l. with_parts l parts) moved ∙ r.split;
      sums = λ f none adds.
          omega (
            arith,
            r.sums f none adds,
            first_sum f (p.0, spans) start,
            ap (λ l. f (l ++ p.1)) (same p.0 h),
            first_sum f (p.0, spans_of es p.0 ++ p.1) (joined_traces es parts),
          );
      stay = λ k some. r.stay k (there_after start (p.0, spans) k some);
      there = (r.stay p.0 (first_there p.0 spans start), r.there);
    }

front_from : {S : Type 0} (es start back parts : List (ℕ × List S)) → AreSame es start back
    → IsFront es parts start (with_parts (start ++ back) parts)
front_from es start back [] same = record {
  front = start;
  back = back;
  split = refl;
  sums = λ f none adds. omega arith;
  stay = λ k some. some;
  there = tt;
}
front_from es start back (p ∷ parts) same =
    front_by es start back p parts (lookup (nat_eq p.0) start) refl same
    (λ start' back' h. front_from es start' back' parts h)

-- ---- the newest

module _ {S : Type 0} (size : S → ℕ) (spans bytes : ℕ) (all newest front back : List (ℕ × List S))
    (split : all ≡ front ++ back) (fits : AreWithin size spans bytes front) where
  fewer : (next : ℕ × List S) (others : List (ℕ × List S)) → all ≡ newest ++ next ∷ others
      → length newest < length front → AreWithin size spans bytes (newest ++ next ∷ [])
  fewer next others cut less =
      let n = length newest + 1 in
      let ends : take n ((newest ++ next ∷ []) ++ others) ≡ newest ++ next ∷ [] =
      take_at (newest ++ next ∷ []) others n (length-append newest (next ∷ [])) in
      let begins : take n (front ++ back) ≡ take n front =
      take-append-le n front back (omega arith) in
      let same : newest ++ next ∷ [] ≡ take n front =
      sym ends ∙ ap (take n) (append_assoc newest (next ∷ []) others ∙ sym cut ∙ split)
      ∙ begins in
      record {
        spans_fit = omega (arith, ap span_count same, le_all length front n, fits.spans_fit);
        bytes_fit =
            omega
            (arith, ap (byte_count size) same, le_all (sum_by size) front n, fits.bytes_fit);
      }

  has_front_by : (older : List (ℕ × List S)) → all ≡ newest ++ older
      → ((next : ℕ × List S) (others : List (ℕ × List S)) → older ≡ next ∷ others
      → ¬ AreWithin size spans bytes (newest ++ next ∷ []))
      → length front ≤ length newest
  has_front_by [] cut needed =
      omega (
        arith,
        ap length cut,
        length-append newest [],
        ap length split,
        length-append front back,
      )
  has_front_by (next ∷ others) cut needed =
      elim (cases_Bool (nat_lt (length newest) (length front))) [
        | inl t ↦
            absurd (needed next others refl (fewer next others cut (grind (arith, nat_tests))))
        | inr n ↦ grind (arith, nat_tests)
      ]

  -- The newest traces begin with the front ones, where these are within the bounds.
  begins_with : (h : AreNewest size spans bytes all newest)
      → newest ≡ front ++ drop (length front) newest
  begins_with h =
      let many = has_front_by h.older h.split h.needed in
      sym (take-append-drop (length front) newest)
      ∙ ap (λ l. l ++ drop (length front) newest)
      (sym (take-append-le (length front) newest h.older many)
      ∙ ap (take (length front)) (sym h.split ∙ split)
      ∙ take_at front back (length front) refl)

  whole_at : (more : List (ℕ × List S)) (k : ℕ) (o : Option (List S)) → newest ≡ front ++ more
      → lookup (nat_eq k) front ≡ o → IsSome (lookup (nat_eq k) front)
      → lookup (nat_eq k) newest ≡ Some (spans_of all k)
  whole_at more k None begins is some = cc (ap is_some is)
  whole_at more k (Some x) begins is some =
      ap (lookup (nat_eq k)) begins ∙ lookup_front k front more x is
      ∙ sym (ap (λ o. Some (unwrap_or o []))
      (ap (lookup (nat_eq k)) split ∙ lookup_front k front back x is))

  are_whole : (more parts : List (ℕ × List S)) → newest ≡ front ++ more → AreThere front parts
      → AreWhole parts all newest
  are_whole more [] begins there = All-nil _
  are_whole more (p ∷ parts) begins there =
      All-cons (λ part. lookup (nat_eq part.0) newest ≡ Some (spans_of all part.0)) p parts
      (whole_at more p.0 (lookup (nat_eq p.0) front) begins refl there.0)
      (are_whole more parts begins there.1)

-- Where the traces that parts have spans of are within the bounds with them, each is kept whole.
pub kept_whole : {S : Type 0} (size : S → ℕ) (spans bytes : ℕ)
    (es parts order newest : List (ℕ × List S))
    → IsPermutation parts order → AreWithin size spans bytes (joined_traces es parts)
    → AreNewest size spans bytes (with_parts es order) newest
    → AreWhole parts (with_parts es order) newest
kept_whole {S} size spans bytes es parts order newest perm room h =
    let all = with_parts es order in
    let f = front_from es [] es order (λ k none. refl) in
    let joined : IsPermutation (joined_traces es parts) (joined_traces es order) =
    IsPermutation-map (λ part. (part.0, spans_of es part.0 ++ part.1)) parts order perm in
    let fits : AreWithin size spans bytes f.front = record {
      spans_fit = omega (
        arith,
        f.sums length refl (λ a b. length-append a b),
        order_sum length (joined_traces es parts) (joined_traces es order) joined,
        room.spans_fit,
      );
      bytes_fit = omega (
        arith,
        f.sums (sum_by size) refl (λ a b. sum_by-append size a b),
        order_sum (sum_by size) (joined_traces es parts) (joined_traces es order) joined,
        room.bytes_fit,
      );
    } in
    let begins = begins_with size spans bytes all newest f.front f.back f.split fits h in
    All-permutation (λ part. lookup (nat_eq part.0) newest ≡ Some (spans_of all part.0)) order parts
    (IsPermutation-sym parts order perm)
    (are_whole size spans bytes all newest f.front f.back f.split fits
    (drop (length f.front) newest) order begins f.there)
