-- What adding parts makes of traces.
use Rattle.std.proofs.Common.{◌≡◌, ℕ, ◌+◌, ◌-◌, ◌<◌, ◌≤◌, true, false, cond, List, [], ◌∷◌, ◌++◌}
use Rattle.std.proofs.Common.{length, take, drop, nat_eq, Option, Some, None, IsSome, refl, sym}
use Rattle.std.proofs.Common.{◌∙◌, ap, subst, inl, inr, eqb-true, append_assoc, arith}
use Rattle.std.proofs.lemmas.Bool.{cases_Bool}
use Rattle.std.proofs.lemmas.List.{drop_at, length-append, map-append, take-append-drop, take_more}
use Rattle.std.proofs.lemmas.List.Sums.{sum_by-append}
use Rattle.std.proofs.lemmas.List.Sorted.{IsPermutation-append_left, IsPermutation-map}
use Rattle.std.proofs.lemmas.List.Sorted.{IsPermutation-middle, IsPermutation-push_more}
use Rattle.std.proofs.lemmas.List.Sorted.{IsPermutation-refl, IsPermutation-sym}
use Rattle.std.proofs.lemmas.List.Sorted.{sum_by-IsPermutation}
use Rattle.std.proofs.Math.ListN.{get_or}
use Rattle.std.specs.Prelude.{is_err, is_some, sum_by, MatchOption, OnErr, OnOk, Result, Ok, Err}
use Rattle.lru.specs.LruCache.{LruCache, lru_cache}
use Rattle.std.specs.List.Sorted.{IsPermutation}
use Rattle.std.specs.Map.{lookup, remove_entry, values_of}
use Rattle.trace_store.specs.Traces.{byte_count, span_count, with_parts, with_spans}
use Rattle.trace_store.specs.Parts.{AddsPart, ArePartway, AreThere}
use Rattle.trace_store.proofs.Puts.{with_absent}
use Rattle.trace_store.proofs.Sums.{sum_last, with_bytes, with_count}

-- ---- which traces are there

-- A key other than the one that is taken out is found as before.
pub lookup_other : {X : Type 0} (k j : ℕ) (es : List (ℕ × X)) → nat_eq k j ≡ false
    → lookup (nat_eq k) (remove_entry (nat_eq j) es) ≡ lookup (nat_eq k) es
lookup_other k j [] ne = refl
lookup_other k j (f ∷ es) ne = elim (cases_Bool (nat_eq j f.0)) [
  | inl t ↦
      let apart : nat_eq k f.0 ≡ false = subst (λ x. nat_eq k x ≡ false) (eqb-true j f.0 t) ne in
      rw (t, apart) refl
  | inr n ↦ rw n (ap (λ x. cond (nat_eq k f.0) (Some f.1) x) (lookup_other k j es ne))
]

-- A trace that is there remains there when spans are added to any trace.
pub there_with : {S : Type 0} (es : List (ℕ × List S)) (k j : ℕ) (spans : List S)
    → IsSome (lookup (nat_eq k) es) → IsSome (lookup (nat_eq k) (with_spans es j spans))
there_with es k j spans h = elim (cases_Bool (nat_eq k j)) [
  | inl t ↦ rw t refl
  | inr n ↦ rw n (ap is_some (lookup_other k j es n) ∙ h)
]

-- Traces that are there remain there when spans are added to any trace.
pub are_there_with : {S : Type 0} (es parts : List (ℕ × List S)) (j : ℕ) (spans : List S)
    → AreThere es parts → AreThere (with_spans es j spans) parts
are_there_with es [] j spans h = tt
are_there_with es (p ∷ parts) j spans h =
    (there_with es p.0 j spans h.0, are_there_with es parts j spans h.1)

-- A trace that is there remains there when another one is put in front.
pub there_after : {S : Type 0} (es : List (ℕ × List S)) (p : ℕ × List S) (k : ℕ)
    → IsSome (lookup (nat_eq k) es) → IsSome (lookup (nat_eq k) (p ∷ es))
there_after es p k h = elim (cases_Bool (nat_eq k p.0)) [
  | inl t ↦ rw t refl
  | inr n ↦ rw n h
]

are_there_after : {S : Type 0} (es parts : List (ℕ × List S)) (p : ℕ × List S) → AreThere es parts
    → AreThere (p ∷ es) parts
are_there_after es [] p h = tt
are_there_after es (q ∷ parts) p h = (there_after es p q.0 h.0, are_there_after es parts p h.1)

are_there_push : {S : Type 0} (es parts : List (ℕ × List S)) (p : ℕ × List S) → AreThere es parts
    → IsSome (lookup (nat_eq p.0) es) → AreThere es (parts ++ p ∷ [])
are_there_push es [] p h there = (there, tt)
are_there_push es (q ∷ parts) p h there = (h.0, are_there_push es parts p h.1 there)

-- ---- parts one after another

-- Parts that are added in two groups make the same traces as all of them added in one go.
pub with_parts_append : {S : Type 0} (es parts others : List (ℕ × List S))
    → with_parts es (parts ++ others) ≡ with_parts (with_parts es parts) others
with_parts_append es [] others = refl
with_parts_append es (p ∷ parts) others = with_parts_append (with_spans es p.0 p.1) parts others

-- ---- sums

-- A sum over parts is the value of the first part and the sum of the others.
pub first_sum : {S : Type 0} (f : List S → ℕ) (p : ℕ × List S) (parts : List (ℕ × List S))
    → sum_by f (values_of (p ∷ parts)) ≡ f p.1 + sum_by f (values_of parts)
first_sum f p parts =
    let whole : sum_by f (values_of (p ∷ parts)) ≡ 0 + f p.1 + sum_by f (values_of parts) =
    sum_by-append f (p.1 ∷ []) (values_of parts) in
    whole ∙ omega arith

-- A sum over two lists of parts is the sum over each list, added.
pub parts_sum : {S : Type 0} (f : List S → ℕ) (parts others : List (ℕ × List S))
    → sum_by f (values_of (parts ++ others))
    ≡ sum_by f (values_of parts) + sum_by f (values_of others)
parts_sum f parts others =
    ap (sum_by f) (map-append (λ x. x.1) parts others)
    ∙ sum_by-append f (values_of parts) (values_of others)

-- A sum over parts doesn't depend on their order.
pub order_sum : {S : Type 0} (f : List S → ℕ) (parts order : List (ℕ × List S))
    → IsPermutation parts order → sum_by f (values_of order) ≡ sum_by f (values_of parts)
order_sum f parts order h =
    sum_by-IsPermutation f (values_of parts) (values_of order)
    (IsPermutation-map (λ x. x.1) parts order h)

-- Traces with added parts have as many more spans as the parts have.
pub with_parts_count : {S : Type 0} (es parts : List (ℕ × List S))
    → span_count (with_parts es parts) ≡ span_count es + span_count parts
with_parts_count es [] = omega arith
with_parts_count es (p ∷ parts) =
    omega (
      arith,
      with_parts_count (with_spans es p.0 p.1) parts,
      with_count es p.0 p.1,
      first_sum length p parts,
    )

-- Traces with added parts take as many more bytes as the parts take.
pub with_parts_bytes : {S : Type 0} (size : S → ℕ) (es parts : List (ℕ × List S))
    → byte_count size (with_parts es parts) ≡ byte_count size es + byte_count size parts
with_parts_bytes size es [] = omega arith
with_parts_bytes size es (p ∷ parts) =
    omega (
      arith,
      with_parts_bytes size (with_spans es p.0 p.1) parts,
      with_bytes size es p.0 p.1,
      first_sum (sum_by size) p parts,
    )

-- The sum over one more part of a list is larger by the value of that part.
pub one_more : {S : Type 0} (f : List S → ℕ) (parts : List (ℕ × List S)) (i : ℕ) (p : ℕ × List S)
    → i < length parts → p ≡ get_or parts i p
    → sum_by f (values_of (take (i + 1) parts)) ≡ sum_by f (values_of (take i parts)) + f p.1
one_more f parts i p within is =
    sum_last f (take (i + 1) parts) (take i parts) p.0 p.1
    (take_more parts i p within ∙ ap (λ x. take i parts ++ x ∷ []) (sym is))

-- The sum over the first parts of a list is at most the sum over all of them.
pub le_all : {S : Type 0} (f : List S → ℕ) (parts : List (ℕ × List S)) (n : ℕ)
    → sum_by f (values_of (take n parts)) ≤ sum_by f (values_of parts)
le_all f parts n =
    let whole =
    sym (parts_sum f (take n parts) (drop n parts))
    ∙ ap (λ x. sum_by f (values_of x)) (take-append-drop n parts) in
    omega (arith, whole)

-- ---- partway

-- Before the first part, no part is added and no part is left for later.
pub none_partway : {S : Type 0} (old : List (ℕ × List S)) → ArePartway old [] old []
none_partway old = record {
  news = [];
  added = [];
  in_front = refl;
  are_added = refl;
  order = IsPermutation-refl [];
  there = tt;
}

new_order : {S : Type 0} (done added others : List (ℕ × List S)) (p : ℕ × List S)
    → IsPermutation done (added ++ others)
    → IsPermutation (done ++ p ∷ []) ((added ++ p ∷ []) ++ others)
new_order done added others p h =
    IsPermutation-push_more done (added ++ others) ((added ++ p ∷ []) ++ others) p h
    (subst (λ x. IsPermutation (p ∷ (added ++ others)) x) (sym (append_assoc added (p ∷ []) others))
    (IsPermutation-sym (added ++ p ∷ others) (p ∷ (added ++ others))
    (IsPermutation-middle added p others)))

old_order : {S : Type 0} (done added others : List (ℕ × List S)) (p : ℕ × List S)
    → IsPermutation done (added ++ others)
    → IsPermutation (done ++ p ∷ []) (added ++ (others ++ p ∷ []))
old_order done added others p h =
    subst (λ x. IsPermutation (done ++ p ∷ []) x) (append_assoc added others (p ∷ []))
    (IsPermutation-append_left (p ∷ []) done (added ++ others) h)

partway_by : {S : Type 0} (old done es es' others others' : List (ℕ × List S)) (p : ℕ × List S)
    (o : Option (List S))
    → lookup (nat_eq p.0) es ≡ o
    → ArePartway old done es others
    → MatchOption o ((es' ≡ p ∷ es) × (others' ≡ others))
    (λ _. (es' ≡ es) × (others' ≡ others ++ p ∷ []))
    → ArePartway old (done ++ p ∷ []) es' others'
partway_by old done es es' others others' p None e h added = record {
  news = p ∷ h.news;
  added = h.added ++ p ∷ [];
  in_front = added.0 ∙ ap (λ x. p ∷ x) h.in_front;
  are_added =
      added.0 ∙ sym (with_absent es p.0 p.1 e) ∙ ap (λ x. with_spans x p.0 p.1) h.are_added
      ∙ sym (with_parts_append old h.added (p ∷ []));
  order =
      subst (λ x. IsPermutation (done ++ p ∷ []) ((h.added ++ p ∷ []) ++ x)) (sym added.1)
      (new_order done h.added others p h.order);
  there =
      subst (λ x. AreThere x others') (sym added.0)
      (subst (λ x. AreThere (p ∷ es) x) (sym added.1) (are_there_after es others p h.there));
}
partway_by old done es es' others others' p (Some spans) e h added = record {
  news = h.news;
  added = h.added;
  in_front = added.0 ∙ h.in_front;
  are_added = added.0 ∙ h.are_added;
  order =
      subst (λ x. IsPermutation (done ++ p ∷ []) (h.added ++ x)) (sym added.1)
      (old_order done h.added others p h.order);
  there =
      subst (λ x. AreThere x others') (sym added.0)
      (subst (λ x. AreThere es x) (sym added.1)
      (are_there_push es others p h.there (ap is_some e)));
}

-- After one more part, either its new trace is added or the part is left for later.
pub one_partway : {S : Type 0} (old done es es' others others' : List (ℕ × List S)) (p : ℕ × List S)
    → ArePartway old done es others → AddsPart es es' others others' p
    → ArePartway old (done ++ p ∷ []) es' others'
one_partway old done es es' others others' p =
    partway_by old done es es' others others' p (lookup (nat_eq p.0) es) refl

-- ---- steps

-- Items yielded and items left are still the whole list after one more item is yielded.
pub yields_step : {X : Type 0} (yielded rest rest' all : List X) (x : X) → yielded ++ rest ≡ all
    → rest ≡ x ∷ rest' → (yielded ++ x ∷ []) ++ rest' ≡ all
yields_step yielded rest rest' all x h next =
    append_assoc yielded (x ∷ []) rest' ∙ ap (λ z. yielded ++ z) (sym next) ∙ h

-- What holds of an error holds where the result is an error.
pub on_err : {T E : Type 0} (P : Type 0) (r : Result T E) → is_err r ≡ true → OnErr r P → P
on_err P (Ok x) h p = cc
on_err P (Err e) h p = p

-- What holds of a success holds where the result is no error.
pub on_ok : {T E : Type 0} (P : Type 0) (r : Result T E) → is_err r ≡ false → OnOk r P → P
on_ok P (Ok x) h p = p
on_ok P (Err e) h p = cc

-- A cache is as before once the new entries are taken out again.
pub taken_back : {X : Type 0} (old during after : LruCache ℕ X) (news : List (ℕ × X)) (m k : ℕ)
    → during.entries ≡ news ++ old.entries → during.cap ≡ old.cap
    → m ≡ length during.entries → k ≡ length old.entries
    → after ≡ lru_cache (drop (m - k) during.entries) during.cap → after ≡ old
taken_back old during after news m k front cap em ek taken =
    let many : length news ≡ m - k =
    omega (arith, ap length front, length-append news old.entries, em, ek) in
    taken
    ∙ ap (λ x. lru_cache (drop (m - k) x) during.cap) front
    ∙ ap (λ x. lru_cache x during.cap) (drop_at news old.entries (m - k) many)
    ∙ ap (λ x. lru_cache old.entries x) cap

others_by : {S : Type 0} (es es' others others' : List (ℕ × List S)) (p : ℕ × List S)
    (o : Option (List S))
    → MatchOption o ((es' ≡ p ∷ es) × (others' ≡ others))
    (λ _. (es' ≡ es) × (others' ≡ others ++ p ∷ []))
    → length others' ≤ length others + 1
others_by es es' others others' p None h = omega (arith, ap length h.1)
others_by es es' others others' p (Some spans) h =
    omega (arith, ap length h.1, length-append others (p ∷ []))

-- The parts left for later grow by at most one with each part.
pub one_other : {S : Type 0} (es es' others others' : List (ℕ × List S)) (p : ℕ × List S)
    → AddsPart es es' others others' p → length others' ≤ length others + 1
one_other es es' others others' p h = others_by es es' others others' p (lookup (nat_eq p.0) es) h

-- Partway, the spans in the traces and in the parts left are as many as were there and came.
pub partway_count : {S : Type 0} (old parts es others : List (ℕ × List S))
    → ArePartway old parts es others
    → span_count es + span_count others ≡ span_count old + span_count parts
partway_count old parts es others h =
    omega (
      arith,
      ap span_count h.are_added ∙ with_parts_count old h.added,
      parts_sum length h.added others,
      order_sum length parts (h.added ++ others) h.order,
    )

-- What holds where an option is empty holds of a match on this option.
pub of_none : (P : Type 0) (Q : ℕ → Type 0) (o : Option ℕ) → o ≡ None → P → MatchOption o P Q
of_none P Q None h p = p
of_none P Q (Some n) h p = cc
