-- Which attributes are kept, with which values, and how many are dropped.
use Rattle.std.proofs.Common.{◌≡◌, ◌≢◌, ◌⊎◌, inl, inr, refl, sym, ap, ap₂, subst, ◌∙◌, ℕ, ◌<◌, ◌≤◌}
use Rattle.std.proofs.Common.{◌+◌, ◌-◌, ◌^◌, min, List, [], ◌∷◌, ◌++◌, map, filter, cond, take}
use Rattle.std.proofs.Common.{length, get_or, count_by, Bool, true, false, not, ◌&&◌, bytes_eq}
use Rattle.std.proofs.Common.{nat_lt, Option, arith}
use Rattle.std.specs.List.{All, AllPairs, AllByRecursion, Contains, list_any, position_or_len}
use Rattle.std.proofs.lemmas.Bool.{ltb-true, ltb-false, false≢true}
use Rattle.std.proofs.lemmas.List.{map-append, length-map, length-take, get_or-take, get_or_default}
use Rattle.std.proofs.lemmas.List.Elements.{All-filter, All-weaker, All-take, All-contains_itself}
use Rattle.std.proofs.lemmas.List.Elements.{filter_passes, filter-append, recursion_from_All}
use Rattle.std.proofs.lemmas.List.Sums.{sum_by-cons}
use Rattle.std.proofs.lemmas.Slice.Eq.{bytes_eq-Decides}
use Rattle.model_span.specs.Attributes.{bool, Attribute, Limits, cut, distinct_of, is_empty}
use Rattle.model_span.specs.Attributes.{kept_keys, has_key, last_or, last_value, is_dropped}
use Rattle.model_span.specs.Attributes.{attributes}
use Rattle.law_export.specs.Keeping.{BeginsWith, keys_of, kept_keys_of, first_use, is_named}
use Rattle.law_export.specs.Keeping.{is_among}
use Rattle.law_export.proofs.Lists.{last-append, contains-filter, contains-map, all-pairs-take}
use Rattle.law_export.proofs.Lists.{all-pairs-where, begins-take, begins-distinct, all-distinct}
use Rattle.law_export.proofs.Lists.{distinct-apart, contains-distinct, place, distinct-in_order}
use Rattle.law_export.proofs.Lists.{place-filter, filter-map}

-- ---- the keys

abbrev at_key : Option ℕ → List Attribute → List ℕ → Attribute
at_key n pairs k = record { key = k; value = cut n (last_value pairs k) }

keys-again : (n : Option ℕ) (pairs : List Attribute) (keys : List (List ℕ))
    → keys_of (map (at_key n pairs) keys) ≡ keys
keys-again n pairs [] = refl
keys-again n pairs (k ∷ keys) = ap (λ l. k ∷ l) (keys-again n pairs keys)

-- The kept keys are the first distinct ones that the model keeps.
pub keys-are : (limits : Limits) (pairs : List Attribute)
    → kept_keys_of limits pairs ≡ kept_keys limits.count pairs
unfolding attributes
keys-are limits pairs = keys-again limits.length pairs (kept_keys limits.count pairs)

-- A property of the first distinct keys holds of the kept keys.
of-keys : (limits : Limits) (pairs : List Attribute) (P : List (List ℕ) → Type 0)
    → P (kept_keys limits.count pairs) → P (kept_keys_of limits pairs)
of-keys limits pairs P h = subst P (sym (keys-are limits pairs)) h

abbrev used : List Attribute → List (List ℕ)
used pairs = filter (λ k. not (is_empty k)) (keys_of pairs)

abbrev all_keys : List Attribute → List (List ℕ)
all_keys pairs = distinct_of bytes_eq (used pairs)

-- No more attributes are kept than the limit says.
pub at-most : (limits : Limits) (pairs : List Attribute)
    → length (attributes limits pairs).items ≤ limits.count
unfolding attributes
at-most limits pairs =
    let items = length-map (kept_keys limits.count pairs) (at_key limits.length pairs) in
    let keys = length-take limits.count (all_keys pairs) in
    omega (arith, items, keys)

has-bytes : (k : List ℕ) → not (is_empty k) ≡ true → k ≢ []
has-bytes k h e = absurd (false≢true (ap (λ l. not (is_empty l)) (sym e) ∙ h))

not-empty : (k : List ℕ) → k ≢ [] → is_empty k ≡ false
not-empty [] h = absurd (h refl)
not-empty (b ∷ bs) h = refl

all-have-bytes : (pairs : List Attribute) → All (λ k. k ≢ []) (all_keys pairs)
all-have-bytes pairs = all-distinct bytes_eq bytes_eq-Decides (λ k. k ≢ []) (used pairs)
    (All-weaker (λ k. not (is_empty k) ≡ true) (λ k. k ≢ []) has-bytes (used pairs)
    (filter_passes (λ k. not (is_empty k)) (keys_of pairs)))

-- No kept key is empty.
pub none-empty : (limits : Limits) (pairs : List Attribute)
    → All (λ k. k ≢ []) (kept_keys_of limits pairs)
none-empty limits pairs =
    of-keys limits pairs (All (λ k. k ≢ []))
    (All-take (λ k. k ≢ []) limits.count (all_keys pairs) (all-have-bytes pairs))

-- No key is kept twice.
pub none-twice : (limits : Limits) (pairs : List Attribute)
    → AllPairs (λ k l. k ≢ l) (kept_keys_of limits pairs)
none-twice limits pairs =
    of-keys limits pairs (AllPairs (λ k l. k ≢ l))
    (all-pairs-take (λ k l. k ≢ l) limits.count (all_keys pairs)
    (distinct-apart bytes_eq bytes_eq-Decides (used pairs)))

-- Each kept key was set.
pub all-set : (limits : Limits) (pairs : List Attribute)
    → All (Contains (keys_of pairs)) (kept_keys_of limits pairs)
all-set limits pairs =
    let P : List ℕ → Type 0 = Contains (keys_of pairs) in
    of-keys limits pairs (All P) (All-take P limits.count (all_keys pairs)
    (all-distinct bytes_eq bytes_eq-Decides P (used pairs)
    (All-filter (λ k. not (is_empty k)) P (keys_of pairs) (All-contains_itself (keys_of pairs)))))

-- ---- their order

-- A key that isn't empty has the same first use among the pairs with a key as among all pairs.
named-place : (k : List ℕ) (pairs : List Attribute) → k ≢ []
    → position_or_len (λ p. is_named p && bytes_eq k p.key) pairs ≡ first_use k pairs
named-place k pairs h = ap (λ test. position_or_len test pairs) (λ i p. same p i)
  where
    same : (p : Attribute) → (is_named p && bytes_eq k p.key) ≡ bytes_eq k p.key
    same p = go (bytes_eq k p.key) refl
      where
        go : (t : Bool) → bytes_eq k p.key ≡ t → (is_named p && t) ≡ t
        go true e =
            ap (λ l. not (is_empty l) && true) (sym ((bytes_eq-Decides k p.key).0 e))
            ∙ ap (λ s. not s && true) (not-empty k h)
        go false e = and-false (is_named p)
          where
            and-false : (s : Bool) → (s && false) ≡ false
            and-false true = refl
            and-false false = refl

all-in-order : (pairs : List Attribute)
    → AllPairs (λ k l. first_use k pairs < first_use l pairs) (all_keys pairs)
all-in-order pairs =
    let named : List Attribute = filter is_named pairs in
    all-pairs-where (λ k. k ≢ [])
    (λ k l. place bytes_eq bytes_eq-Decides (λ p. p.key) named k
    < place bytes_eq bytes_eq-Decides (λ p. p.key) named l)
    (λ k l. first_use k pairs < first_use l pairs) earlier (all_keys pairs)
    (all-have-bytes pairs)
    (subst (λ keys. AllPairs (λ k l. place bytes_eq bytes_eq-Decides (λ p. p.key) named k
    < place bytes_eq bytes_eq-Decides (λ p. p.key) named l)
    (distinct_of bytes_eq keys))
    (sym (filter-map (λ k. not (is_empty k)) (λ p. p.key) pairs))
    (distinct-in_order bytes_eq bytes_eq-Decides (λ p. p.key) named))
  where
    earlier : (k l : List ℕ) → k ≢ [] → l ≢ []
        → position_or_len (λ p. bytes_eq k p.key) (filter is_named pairs)
        < position_or_len (λ p. bytes_eq l p.key) (filter is_named pairs)
        → first_use k pairs < first_use l pairs
    earlier k l hk hl h =
        let inside =
        place-filter is_named (λ p. bytes_eq k p.key) (λ p. bytes_eq l p.key) pairs h in
        let ek = named-place k pairs hk in
        let el = named-place l pairs hl in
        omega (arith, inside, ek, el)

-- The kept keys are in the order of their first use.
pub in-order : (limits : Limits) (pairs : List Attribute)
    → AllPairs (λ k l. first_use k pairs < first_use l pairs) (kept_keys_of limits pairs)
in-order limits pairs =
    of-keys limits pairs (AllPairs (λ k l. first_use k pairs < first_use l pairs))
    (all-pairs-take (λ k l. first_use k pairs < first_use l pairs) limits.count (all_keys pairs)
    (all-in-order pairs))

abbrev IsLeftOut : ℕ → List Attribute → List ℕ → List (List ℕ) → Type 0
IsLeftOut n pairs k keys =
    Contains keys k ⊎ ((length keys ≡ n) × All (λ l. first_use l pairs < first_use k pairs) keys)

-- A key that was set is kept, unless as many as the limit says were first used before it.
pub left-out : (limits : Limits) (pairs : List Attribute) (k : List ℕ) → k ≢ []
    → Contains (keys_of pairs) k → IsLeftOut limits.count pairs k (kept_keys_of limits pairs)
left-out limits pairs k h set =
    of-keys limits pairs (IsLeftOut limits.count pairs k) (go (nat_lt place-of.0 limits.count) refl)
  where
    place-of : Contains (all_keys pairs) k
    place-of =
        contains-distinct bytes_eq bytes_eq-Decides (used pairs) k
        (contains-filter (λ l. not (is_empty l)) (keys_of pairs) k (ap not (not-empty k h)) set)

    go : (t : Bool) → nat_lt place-of.0 limits.count ≡ t
        → IsLeftOut limits.count pairs k (kept_keys limits.count pairs)
    go true e =
        let room = ltb-true _ _ e in
        let size = length-take limits.count (all_keys pairs) in
        inl (
          place-of.0,
          omega (arith, room, size, place-of.1),
          get_or-take limits.count (all_keys pairs) place-of.0 k room ∙ place-of.2,
        )
    go false e =
        let full = ltb-false _ _ e in
        let size = length-take limits.count (all_keys pairs) in
        inr (
          omega (arith, full, size, place-of.1),
          λ j d within.
              let below : j < limits.count = omega (arith, within, size) in
              let earlier =
              all-in-order pairs j place-of.0 d (omega (arith, below, full)) place-of.1 in
              let kept = get_or-take limits.count (all_keys pairs) j d below in
              let own = get_or_default (all_keys pairs) place-of.0 d k place-of.1 ∙ place-of.2 in
              subst (λ l. first_use l pairs < first_use k pairs) (sym kept)
              (subst
              (λ l. first_use (get_or (all_keys pairs) j d) pairs < first_use l pairs) own earlier),
        )

-- Pairs that are set later remove no kept key and move none.
pub keys-stay : (limits : Limits) (pairs more : List Attribute)
    → BeginsWith (kept_keys_of limits (pairs ++ more)) (kept_keys_of limits pairs)
keys-stay limits pairs more =
    let all = begins-distinct bytes_eq (used pairs) (used more) in
    let first = begins-take limits.count (all_keys pairs) all.0 in (
      first.0,
      keys-are limits (pairs ++ more)
          ∙ ap (λ l. take limits.count (distinct_of bytes_eq (filter (λ k. not (is_empty k)) l)))
          (map-append (λ p. p.key) pairs more)
          ∙ ap (λ l. take limits.count (distinct_of bytes_eq l))
          (filter-append (λ k. not (is_empty k)) (keys_of pairs) (keys_of more))
          ∙ ap (take limits.count) all.1 ∙ first.1
          ∙ ap (λ l. l ++ first.0) (sym (keys-are limits pairs)),
    )

-- ---- the values

filter-none : (k : List ℕ) (back : List Attribute) → AllByRecursion (λ q. q.key ≢ k) back
    → filter (has_key k) back ≡ []
filter-none k [] h = refl
filter-none k (q ∷ back) h = go (bytes_eq q.key k) refl (filter-none k back h.1)
  where
    go : (t : Bool) → bytes_eq q.key k ≡ t → filter (has_key k) back ≡ []
        → cond t (q ∷ filter (has_key k) back) (filter (has_key k) back) ≡ []
    go true e ih = absurd (h.0 ((bytes_eq-Decides q.key k).0 e))
    go false e ih = ih

value-is : (front back : List Attribute) (p : Attribute) → All (λ q. q.key ≢ p.key) back
    → last_value (front ++ p ∷ back) p.key ≡ p.value
value-is front back p h =
    ap (λ l. last_or (bool false) (map (λ q. q.value) l))
    (filter-append (has_key p.key) front (p ∷ back)
    ∙ ap₂ (λ t l. filter (has_key p.key) front ++ cond t (p ∷ l) l)
    ((bytes_eq-Decides p.key p.key).1 refl)
    (filter-none p.key back (recursion_from_All (λ q. q.key ≢ p.key) back h)))
    ∙ ap (last_or (bool false)) (map-append (λ q. q.value) (filter (has_key p.key) front) (p ∷ []))
    ∙ last-append (bool false) (map (λ q. q.value) (filter (has_key p.key) front)) p.value

-- A kept key has the value that was set last, cut to the limit of its texts.
pub last-pair : (limits : Limits) (front back : List Attribute) (p : Attribute)
    → Contains (kept_keys_of limits (front ++ p ∷ back)) p.key → All (λ q. q.key ≢ p.key) back →
    Contains (attributes limits (front ++ p ∷ back)).items
    (record { key = p.key; value = cut limits.length p.value })
unfolding attributes
last-pair limits front back p kept h =
    let pairs : List Attribute = front ++ p ∷ back in
    let key : Contains (kept_keys limits.count pairs) p.key =
    subst (λ keys. Contains keys p.key) (keys-are limits pairs) kept in
    subst (λ v.
    Contains (attributes limits pairs).items (record { key = p.key; value = cut limits.length v }))
    (value-is front back p h)
    (contains-map (at_key limits.length pairs) (kept_keys limits.count pairs) p.key key)

-- ---- the count of the dropped

-- An empty key is not among keys that aren't empty.
empty-among : (keys : List (List ℕ)) → AllByRecursion (λ k. k ≢ []) keys
    → list_any (λ k. bytes_eq [] k) keys ≡ false
empty-among [] h = refl
empty-among ([] ∷ keys) h = absurd (h.0 refl)
empty-among ((b ∷ bs) ∷ keys) h = empty-among keys h.1

one-adds : (keys : List (List ℕ)) → AllByRecursion (λ k. k ≢ []) keys → (k : List ℕ) →
    cond (list_any (λ l. bytes_eq k l) keys) 1 0
    + cond (not (is_empty k) && not (list_any (λ l. bytes_eq k l) keys)) 1 0
    ≡ cond (not (is_empty k)) 1 0
one-adds keys h [] = ap (λ t. cond t 1 0 + 0) (empty-among keys h)
one-adds keys h (b ∷ bs) = go (list_any (λ l. bytes_eq (b ∷ bs) l) keys)
  where
    go : (t : Bool) → cond t 1 0 + cond (not t) 1 0 ≡ 1
    go true = refl
    go false = refl

adds-up : (keys : List (List ℕ)) → AllByRecursion (λ k. k ≢ []) keys → (pairs : List Attribute)
    → count_by (is_among keys) pairs + count_by (is_dropped keys) pairs ≡ count_by is_named pairs
adds-up keys h [] = refl
adds-up keys h (p ∷ pairs) =
    let ih = adds-up keys h pairs in
    let one = one-adds keys h p.key in
    let among = sum_by-cons (λ q. cond (is_among keys q) 1 0) p pairs in
    let dropped = sum_by-cons (λ q. cond (is_dropped keys q) 1 0) p pairs in
    let named = sum_by-cons (λ q. cond (is_named q) 1 0) p pairs in
    omega (arith, ih, one, among, dropped, named)

-- The pairs with a key that isn't kept are counted as dropped, up to the greatest count.
pub others-dropped : (limits : Limits) (pairs : List Attribute) →
    (others : ℕ)
    × (count_by (is_among (kept_keys_of limits pairs)) pairs + others ≡ count_by is_named pairs)
    × ((attributes limits pairs).dropped ≡ min others (2 ^ 32 - 1))
unfolding attributes
others-dropped limits pairs =
    let keys : List (List ℕ) = kept_keys limits.count pairs in
    let none : All (λ k. k ≢ []) keys =
    All-take (λ k. k ≢ []) limits.count (all_keys pairs) (all-have-bytes pairs) in (
      count_by (is_dropped keys) pairs,
      ap (λ l. count_by (is_among l) pairs + count_by (is_dropped keys) pairs)
          (keys-are limits pairs)
          ∙ adds-up keys (recursion_from_All (λ k. k ≢ []) keys none) pairs,
      refl,
    )

-- Below the greatest count, the pairs with a kept key and the dropped ones are all with a key.
pub all-add-up : (limits : Limits) (pairs : List Attribute) → count_by is_named pairs < 2 ^ 32
    → count_by (is_among (kept_keys_of limits pairs)) pairs + (attributes limits pairs).dropped
    ≡ count_by is_named pairs
all-add-up limits pairs small =
    let others = others-dropped limits pairs in omega (arith, others.1, others.2, small)
