-- What one more pair does to the attributes that are kept.
use Rattle.std.proofs.Common.{◌≡◌, refl, sym, ap, ap₂, subst, ◌∙◌, ℕ, zero, suc, ◌<◌, ◌≤◌, ◌+◌}
use Rattle.std.proofs.Common.{List, [], ◌∷◌, ◌++◌, map, filter, cond, take, length, Bool, true}
use Rattle.std.proofs.Common.{false, not, ◌&&◌, ◌||◌, count_by, fold, arith, bytes_eq, Option}
use Rattle.std.proofs.Common.{if◌then◌else◌, nat_lt}
use Rattle.std.specs.List.{list_any}
use Rattle.std.proofs.lemmas.List.{map-append, append-nil, length-map, length-append, take_all}
use Rattle.std.proofs.lemmas.List.{take-append-le}
use Rattle.std.proofs.lemmas.List.Sums.{sum_by-append}
use Rattle.std.proofs.lemmas.Bool.{ltb-true, ltb-false, true≢false, false≢true}
use lib.Pointwise.{bytes_decides}
use Rattle.std.proofs.lemmas.List.Elements.{filter-append}
use Rattle.model_span.proofs.Lists.{distinct-more, last-more}
use Rattle.model_span.specs.Attributes.{bool, Attribute, Limits, Kept, capped_count, cut}
use Rattle.model_span.specs.Attributes.{distinct_of, is_empty, kept_keys, has_key, last_or}
use Rattle.model_span.specs.Attributes.{last_value, is_dropped, attributes}

-- ---- one pair more

-- What is kept after a pair is set: an empty key is ignored, a key that is there gets the value, a
-- new one its place while there is room. (Trace API, Set Attributes; Common, Attribute Limits)
abbrev pub set_by : Bool → Bool → Bool → Limits → Kept Attribute → Attribute → Kept Attribute
set_by ignored there room limits kept p =
    if ignored then kept
    else if there
    then record {
      items =
          map (λ q.
          if has_key p.key q then record { key = q.key; value = cut limits.length p.value } else q)
          kept.items;
      dropped = kept.dropped;
    }
    else if room
    then record {
      items = kept.items ++ record { key = p.key; value = cut limits.length p.value } ∷ [];
      dropped = kept.dropped;
    }
    else record { items = kept.items; dropped = capped_count (kept.dropped + 1) }

-- one more pair is set; that this agrees with the whole list is a law
abbrev pub set_one : Limits → Kept Attribute → Attribute → Kept Attribute
set_one limits kept p =
    set_by (is_empty p.key) (list_any (has_key p.key) kept.items)
    (nat_lt (length kept.items) limits.count) limits kept p

-- ---- lists

or_parts : (s t : Bool) → (s || t) ≡ false → (s ≡ false) × (t ≡ false)
or_parts true t h = absurd (true≢false h)
or_parts false t h = (refl, h)

same-key : (a b : List ℕ) → bytes_eq a b ≡ true → a ≡ b
same-key a b h = (bytes_decides a b).0 h

own-key : (a : List ℕ) → bytes_eq a a ≡ true
own-key a = (bytes_decides a a).1 refl

abbrev is_key : List ℕ → List ℕ → Bool
is_key k l = bytes_eq l k

not-same : (a b : List ℕ) → bytes_eq a b ≡ false → bytes_eq b a ≡ false
not-same a b h = go (bytes_eq b a) refl
  where
    go : (t : Bool) → bytes_eq b a ≡ t → t ≡ false
    go true e =
        absurd (true≢false (sym (own-key a) ∙ ap (λ z. bytes_eq a z) (sym (same-key b a e)) ∙ h))
    go false e = refl

-- whether the key is among these
abbrev among : List ℕ → List (List ℕ) → Bool
among k keys = list_any (is_key k) keys

any-append : {A : Type 0} (test : A → Bool) (xs ys : List A)
    → list_any test (xs ++ ys) ≡ (list_any test xs || list_any test ys)
any-append test [] ys = refl
any-append test (x ∷ xs) ys = go (test x) (any-append test xs ys)
  where
    go : (t : Bool) → list_any test (xs ++ ys) ≡ (list_any test xs || list_any test ys)
        → (t || list_any test (xs ++ ys)) ≡ ((t || list_any test xs) || list_any test ys)
    go true h = refl
    go false h = h

any-map : {A B : Type 0} (test : B → Bool) (f : A → B) (xs : List A)
    → list_any test (map f xs) ≡ list_any (λ x. test (f x)) xs
any-map test f [] = refl
any-map test f (x ∷ xs) = ap (λ t. test (f x) || t) (any-map test f xs)

-- A filter that leaves out another key leaves this one.
among-filter : (k x : List ℕ) → bytes_eq x k ≡ false → (keys : List (List ℕ))
    → among k (filter (λ z. not (bytes_eq x z)) keys) ≡ among k keys
among-filter k x e [] = refl
among-filter k x e (y ∷ keys) = go (bytes_eq x y) refl (among-filter k x e keys)
  where
    go : (t : Bool) → bytes_eq x y ≡ t
        → among k (filter (λ z. not (bytes_eq x z)) keys) ≡ among k keys
        → among k
        (cond (not t) (y ∷ filter (λ z. not (bytes_eq x z)) keys)
        (filter (λ z. not (bytes_eq x z)) keys))
        ≡ (bytes_eq y k || among k keys)
    go true h ih =
        ih ∙ ap (λ t. t || among k keys) (sym e ∙ ap (λ z. bytes_eq z k) (same-key x y h))
    go false h ih = ap (λ t. bytes_eq y k || t) ih

among-distinct : (k : List ℕ) (keys : List (List ℕ))
    → among k (distinct_of bytes_eq keys) ≡ among k keys
among-distinct k [] = refl
among-distinct k (x ∷ keys) = go (bytes_eq x k) refl (among-distinct k keys)
  where
    go : (t : Bool) → bytes_eq x k ≡ t → among k (distinct_of bytes_eq keys) ≡ among k keys
        → (t || among k (filter (λ z. not (bytes_eq x z)) (distinct_of bytes_eq keys)))
        ≡ (t || among k keys)
    go true h ih = refl
    go false h ih = among-filter k x h (distinct_of bytes_eq keys) ∙ ih

-- the keys that aren't empty, in order of use
abbrev used : List Attribute → List (List ℕ)
used pairs = filter (λ k. not (is_empty k)) (map (λ p. p.key) pairs)

used-more : (pairs : List Attribute) (p : Attribute)
    → used (pairs ++ p ∷ []) ≡ used pairs ++ cond (not (is_empty p.key)) (p.key ∷ []) []
used-more pairs p =
    ap (filter (λ k. not (is_empty k))) (map-append (λ q. q.key) pairs (p ∷ []))
    ∙ filter-append (λ k. not (is_empty k)) (map (λ q. q.key) pairs) (p.key ∷ [])

-- ---- values

filter-one : {A : Type 0} (test : A → Bool) (xs : List A) (x : A) → test x ≡ true
    → filter test (xs ++ x ∷ []) ≡ filter test xs ++ x ∷ []
filter-one test xs x e =
    filter-append test xs (x ∷ []) ∙ ap (λ t. filter test xs ++ cond t (x ∷ []) []) e

filter-none : {A : Type 0} (test : A → Bool) (xs : List A) (x : A) → test x ≡ false
    → filter test (xs ++ x ∷ []) ≡ filter test xs
filter-none test xs x e =
    filter-append test xs (x ∷ []) ∙ ap (λ t. filter test xs ++ cond t (x ∷ []) []) e
    ∙ append-nil (filter test xs)

value-own : (pairs : List Attribute) (p : Attribute) (k : List ℕ) → has_key k p ≡ true
    → last_value (pairs ++ p ∷ []) k ≡ p.value
value-own pairs p k e =
    ap (λ l. last_or (bool false) (map (λ q. q.value) l)) (filter-one (has_key k) pairs p e)
    ∙ ap (last_or (bool false)) (map-append (λ q. q.value) (filter (has_key k) pairs) (p ∷ []))
    ∙ last-more (bool false) (map (λ q. q.value) (filter (has_key k) pairs)) p.value

value-other : (pairs : List Attribute) (p : Attribute) (k : List ℕ) → has_key k p ≡ false
    → last_value (pairs ++ p ∷ []) k ≡ last_value pairs k
value-other pairs p k e =
    ap (λ l. last_or (bool false) (map (λ q. q.value) l)) (filter-none (has_key k) pairs p e)

abbrev at_key : Option ℕ → List Attribute → List ℕ → Attribute
at_key n pairs k = record { key = k; value = cut n (last_value pairs k) }

-- The pairs of keys other than this one stay as they are.
items-other : (n : Option ℕ) (pairs : List Attribute) (p : Attribute) (keys : List (List ℕ))
    → among p.key keys ≡ false → map (at_key n (pairs ++ p ∷ [])) keys ≡ map (at_key n pairs) keys
items-other n pairs p [] h = refl
items-other n pairs p (k ∷ keys) h =
    let parts = or_parts (bytes_eq k p.key) (among p.key keys) h in
    ap₂ (λ v l. record { key = k; value = cut n v } ∷ l)
    (value-other pairs p k (not-same k p.key parts.0)) (items-other n pairs p keys parts.1)

-- A pair of this key gets its value.
items-own : (n : Option ℕ) (pairs : List Attribute) (p : Attribute) (keys : List (List ℕ)) →
    map (at_key n (pairs ++ p ∷ [])) keys
    ≡ map (λ q. if has_key p.key q then record { key = q.key; value = cut n p.value } else q)
    (map (at_key n pairs) keys)
items-own n pairs p [] = refl
items-own n pairs p (k ∷ keys) =
    ap₂ (λ q l. q ∷ l) (go (bytes_eq k p.key) refl) (items-own n pairs p keys)
  where
    go : (t : Bool) → bytes_eq k p.key ≡ t
        → at_key n (pairs ++ p ∷ []) k
        ≡ cond t (record { key = k; value = cut n p.value }) (at_key n pairs k)
    go true h =
        ap (λ v. record { key = k; value = cut n v })
        (value-own pairs p k (ap (λ z. bytes_eq z k) (sym (same-key k p.key h)) ∙ own-key k))
    go false h =
        ap (λ v. record { key = k; value = cut n v }) (value-other pairs p k (not-same k p.key h))

-- ---- which keys are kept

any-take : {A : Type 0} (test : A → Bool) (n : ℕ) (xs : List A) → list_any test (take n xs) ≡ true
    → list_any test xs ≡ true
any-take test zero xs h = absurd (false≢true h)
any-take test (suc n) [] h = absurd (false≢true h)
any-take test (suc n) (x ∷ xs) h = go (test x) (any-take test n xs) h
  where
    go : (t : Bool) → (list_any test (take n xs) ≡ true → list_any test xs ≡ true)
        → (t || list_any test (take n xs)) ≡ true → (t || list_any test xs) ≡ true
    go true ih k = refl
    go false ih k = ih k

abbrev all_keys : List Attribute → List (List ℕ)
all_keys pairs = distinct_of bytes_eq (used pairs)

keys-empty : (n : ℕ) (pairs : List Attribute) (p : Attribute) → is_empty p.key ≡ true
    → kept_keys n (pairs ++ p ∷ []) ≡ kept_keys n pairs
keys-empty n pairs p e =
    ap (λ l. take n (distinct_of bytes_eq l))
    (used-more pairs p ∙ ap (λ t. used pairs ++ cond (not t) (p.key ∷ []) []) e
    ∙ append-nil (used pairs))

all-more : (pairs : List Attribute) (p : Attribute) → is_empty p.key ≡ false
    → all_keys (pairs ++ p ∷ [])
    ≡ cond (among p.key (all_keys pairs)) (all_keys pairs) (all_keys pairs ++ p.key ∷ [])
all-more pairs p e =
    ap (distinct_of bytes_eq)
    (used-more pairs p ∙ ap (λ t. used pairs ++ cond (not t) (p.key ∷ []) []) e)
    ∙ distinct-more bytes_eq (used pairs) p.key
    ∙ ap (λ t. cond t (all_keys pairs) (all_keys pairs ++ p.key ∷ []))
    (sym (among-distinct p.key (used pairs)))

keys-there : (n : ℕ) (pairs : List Attribute) (p : Attribute) → is_empty p.key ≡ false
    → among p.key (kept_keys n pairs) ≡ true → kept_keys n (pairs ++ p ∷ []) ≡ kept_keys n pairs
keys-there n pairs p e h =
    ap (take n)
    (all-more pairs p e
    ∙ ap (λ t. cond t (all_keys pairs) (all_keys pairs ++ p.key ∷ []))
    (any-take (is_key p.key) n (all_keys pairs) h))

short : (n : ℕ) (keys : List (List ℕ)) → length (take n keys) < n → take n keys ≡ keys
short zero keys l = absurd (omega (arith, l))
short (suc n) [] l = refl
short (suc n) (k ∷ keys) l = ap (λ r. k ∷ r) (short n keys (omega (arith, l)))

take-less : (n : ℕ) (keys : List (List ℕ)) → length (take n keys) ≤ length keys
take-less zero keys = omega arith
take-less (suc n) [] = omega arith
take-less (suc n) (k ∷ keys) = let ih = take-less n keys in omega (arith, ih)

take-more : (n : ℕ) (keys : List (List ℕ)) (k : List ℕ) → length keys < n
    → take n (keys ++ k ∷ []) ≡ keys ++ k ∷ []
take-more n keys k l =
    take_all n (keys ++ k ∷ [])
    (let e : length (keys ++ k ∷ []) ≡ length keys + 1 = length-append keys (k ∷ []) in
    omega (arith, e, l))

keys-new : (n : ℕ) (pairs : List Attribute) (p : Attribute) → is_empty p.key ≡ false
    → among p.key (kept_keys n pairs) ≡ false → length (kept_keys n pairs) < n →
    (kept_keys n (pairs ++ p ∷ []) ≡ kept_keys n pairs ++ p.key ∷ [])
    × (among p.key (used pairs) ≡ false)
keys-new n pairs p e h l =
    let all = short n (all_keys pairs) l in
    let fresh : among p.key (all_keys pairs) ≡ false = ap (among p.key) (sym all) ∙ h in (
      ap (take n)
          (all-more pairs p e
          ∙ ap (λ t. cond t (all_keys pairs) (all_keys pairs ++ p.key ∷ [])) fresh)
          ∙ take-more n (all_keys pairs) p.key (subst (λ z. length z < n) all l)
          ∙ ap (λ z. z ++ p.key ∷ []) (sym all),
      sym (among-distinct p.key (used pairs)) ∙ fresh,
    )

keys-full : (n : ℕ) (pairs : List Attribute) (p : Attribute) → is_empty p.key ≡ false
    → n ≤ length (kept_keys n pairs) → kept_keys n (pairs ++ p ∷ []) ≡ kept_keys n pairs
keys-full n pairs p e l = ap (take n) (all-more pairs p e) ∙ go (among p.key (all_keys pairs))
  where
    go : (t : Bool)
        → take n (cond t (all_keys pairs) (all_keys pairs ++ p.key ∷ [])) ≡ take n (all_keys pairs)
    go true = refl
    go false =
        take-append-le n (all_keys pairs) (p.key ∷ [])
        (let m = take-less n (all_keys pairs) in omega (arith, l, m))

-- ---- the count of the dropped

count-more : (test : Attribute → Bool) (pairs : List Attribute) (p : Attribute)
    → count_by test (pairs ++ p ∷ []) ≡ count_by test pairs + cond (test p) 1 0
count-more test pairs p =
    sum_by-append (λ x. cond (test x) 1 0) pairs (p ∷ [])
    ∙ (let none : 0 + cond (test p) 1 0 ≡ cond (test p) 1 0 = omega arith in
    ap (λ z. count_by test pairs + z) none)

turned : (a b : List ℕ) → bytes_eq a b ≡ bytes_eq b a
turned a b = go (bytes_eq a b) refl
  where
    go : (t : Bool) → bytes_eq a b ≡ t → t ≡ bytes_eq b a
    go true h = sym (ap (λ z. bytes_eq z a) (sym (same-key a b h)) ∙ own-key a)
    go false h = sym (not-same a b h)

among-turned : (k : List ℕ) (keys : List (List ℕ))
    → list_any (λ l. bytes_eq k l) keys ≡ among k keys
among-turned k [] = refl
among-turned k (l ∷ keys) = ap₂ (λ s t. s || t) (turned k l) (among-turned k keys)

dropped-is : (keys : List (List ℕ)) (p : Attribute) (s t : Bool) → is_empty p.key ≡ s
    → among p.key keys ≡ t → is_dropped keys p ≡ (not s && not t)
dropped-is keys p s t e h = ap₂ (λ a b. not a && not b) e (among-turned p.key keys ∙ h)

-- A key that is not the pair's doesn't change whether the pair is dropped.
dropped-same : (keys : List (List ℕ)) (k : List ℕ) (q : Attribute) (t : Bool)
    → (not (is_empty q.key) && bytes_eq q.key k) ≡ false
    → is_dropped (keys ++ k ∷ []) q ≡ is_dropped keys q
dropped-same keys k q t h =
    ap (λ z. not (is_empty q.key) && not z) (any-append (λ l. has_key l q) keys (k ∷ []))
    ∙ go (is_empty q.key) (bytes_eq q.key k) (list_any (λ l. has_key l q) keys) h
  where
    go : (a b c : Bool) → (not a && b) ≡ false
        → (not a && not (c || (b || false))) ≡ (not a && not c)
    go true b c h = refl
    go false true c h = absurd (true≢false h)
    go false false true h = refl
    go false false false h = refl

none-of-key : (k : List ℕ) (q : Attribute) (pairs : List Attribute)
    → among k (used (q ∷ pairs)) ≡ false
    → ((not (is_empty q.key) && bytes_eq q.key k) ≡ false) × (among k (used pairs) ≡ false)
none-of-key k q pairs h = go (is_empty q.key) h
  where
    go : (a : Bool) → among k (cond (not a) (q.key ∷ used pairs) (used pairs)) ≡ false
        → ((not a && bytes_eq q.key k) ≡ false) × (among k (used pairs) ≡ false)
    go true h = (refl, h)
    go false h = or_parts (bytes_eq q.key k) (among k (used pairs)) h

abbrev count : Bool → ℕ
count t = cond t 1 0

counts-same : (keys : List (List ℕ)) (k : List ℕ) (start : ℕ) (pairs : List Attribute)
    → among k (used pairs) ≡ false →
    fold (λ a q. a + count (is_dropped (keys ++ k ∷ []) q)) start pairs
    ≡ fold (λ a q. a + count (is_dropped keys q)) start pairs
counts-same keys k start [] h = refl
counts-same keys k start (q ∷ pairs) h =
    let one = none-of-key k q pairs h in
    counts-same keys k (start + count (is_dropped (keys ++ k ∷ []) q)) pairs one.1
    ∙ ap (λ t. fold (λ a r. a + count (is_dropped keys r)) (start + count t) pairs)
    (dropped-same keys k q true one.0)

-- ---- one more pair

in-items : (n : Option ℕ) (pairs : List Attribute) (k : List ℕ) (keys : List (List ℕ))
    → list_any (has_key k) (map (at_key n pairs) keys) ≡ among k keys
in-items n pairs k keys = any-map (has_key k) (at_key n pairs) keys

counted-more : (n : ℕ) → capped_count (n + 1) ≡ capped_count (capped_count n + 1)
counted-more n = omega arith

nonempty-kept : (pairs : List Attribute) (k : List ℕ) → is_empty k ≡ true
    → among k (used pairs) ≡ false
nonempty-kept [] k e = refl
nonempty-kept (q ∷ pairs) k e = go (is_empty q.key) refl (nonempty-kept pairs k e)
  where
    go : (t : Bool) → is_empty q.key ≡ t → among k (used pairs) ≡ false
        → among k (cond (not t) (q.key ∷ used pairs) (used pairs)) ≡ false
    go true h ih = ih
    go false h ih = ap₂ (λ a b. a || b) (differ (bytes_eq q.key k) refl) ih
      where
        differ : (u : Bool) → bytes_eq q.key k ≡ u → u ≡ false
        differ true same =
            absurd (true≢false (sym e ∙ ap is_empty (sym (same-key q.key k same)) ∙ h))
        differ false same = refl

not-kept : (n : ℕ) (pairs : List Attribute) (k : List ℕ) → among k (used pairs) ≡ false
    → among k (kept_keys n pairs) ≡ false
not-kept n pairs k h = go (among k (kept_keys n pairs)) refl
  where
    go : (t : Bool) → among k (kept_keys n pairs) ≡ t → t ≡ false
    go true e =
        absurd (true≢false
        (sym (any-take (is_key k) n (all_keys pairs) e) ∙ among-distinct k (used pairs) ∙ h))
    go false e = refl

abbrev made : List Attribute → ℕ → Kept Attribute
made items dropped = record { items = items; dropped = dropped }

count-by : (keys : List (List ℕ)) (pairs : List Attribute) (p : Attribute) (s t : Bool)
    → is_empty p.key ≡ s → among p.key keys ≡ t
    → count_by (is_dropped keys) (pairs ++ p ∷ [])
    ≡ count_by (is_dropped keys) pairs + count (not s && not t)
count-by keys pairs p s t e h =
    count-more (is_dropped keys) pairs p
    ∙ ap (λ z. count_by (is_dropped keys) pairs + count z) (dropped-is keys p s t e h)

same-keys : (limits : Limits) (pairs : List Attribute) (p : Attribute) (s t : Bool)
    → is_empty p.key ≡ s → among p.key (kept_keys limits.count pairs) ≡ t
    → kept_keys limits.count (pairs ++ p ∷ []) ≡ kept_keys limits.count pairs →
    attributes limits (pairs ++ p ∷ [])
    ≡ made (map (at_key limits.length (pairs ++ p ∷ [])) (kept_keys limits.count pairs))
    (capped_count
    (count_by (is_dropped (kept_keys limits.count pairs)) pairs + count (not s && not t)))
unfolding attributes
same-keys limits pairs p s t e h same =
    ap (λ keys. made (map (at_key limits.length (pairs ++ p ∷ [])) keys)
    (capped_count (count_by (is_dropped keys) (pairs ++ p ∷ []))))
    same
    ∙ ap (λ n. made (map (at_key limits.length (pairs ++ p ∷ [])) (kept_keys limits.count pairs))
    (capped_count n))
    (count-by (kept_keys limits.count pairs) pairs p s t e h)

new-items : (n : Option ℕ) (pairs : List Attribute) (p : Attribute) (keys : List (List ℕ))
    → among p.key keys ≡ false →
    map (at_key n (pairs ++ p ∷ [])) (keys ++ p.key ∷ [])
    ≡ map (at_key n pairs) keys ++ record { key = p.key; value = cut n p.value } ∷ []
new-items n pairs p keys h = map-append (at_key n (pairs ++ p ∷ [])) keys (p.key ∷ [])
    ∙ ap₂ (λ l v. l ++ record { key = p.key; value = cut n v } ∷ []) (items-other n pairs p keys h)
    (value-own pairs p p.key (own-key p.key))

there-now : (k : List ℕ) (keys : List (List ℕ)) → among k (keys ++ k ∷ []) ≡ true
there-now k [] = ap (λ t. t || false) (own-key k)
there-now k (l ∷ keys) = ap (λ t. bytes_eq l k || t) (there-now k keys) ∙ go (bytes_eq l k)
  where
    go : (t : Bool) → (t || true) ≡ true
    go true = refl
    go false = refl

new-count : (keys : List (List ℕ)) (pairs : List Attribute) (p : Attribute) → is_empty p.key ≡ false
    → among p.key (used pairs) ≡ false →
    count_by (is_dropped (keys ++ p.key ∷ [])) (pairs ++ p ∷ []) ≡ count_by (is_dropped keys) pairs
new-count keys pairs p e h =
    let same : count_by (is_dropped (keys ++ p.key ∷ [])) pairs ≡ count_by (is_dropped keys) pairs =
    counts-same keys p.key 0 pairs h in
    let last = count-by (keys ++ p.key ∷ []) pairs p false true e (there-now p.key keys) in
    omega (arith, same, last)

more-by : (limits : Limits) (pairs : List Attribute) (p : Attribute) (s t r : Bool)
    → is_empty p.key ≡ s → among p.key (kept_keys limits.count pairs) ≡ t
    → nat_lt (length (kept_keys limits.count pairs)) limits.count ≡ r →
    attributes limits (pairs ++ p ∷ []) ≡ set_by s t r limits (attributes limits pairs) p
unfolding attributes
more-by limits pairs p true t r e h l =
    let out = not-kept limits.count pairs p.key (nonempty-kept pairs p.key e) in
    same-keys limits pairs p true false e out (keys-empty limits.count pairs p e)
    ∙ ap₂ (λ items n. made items (capped_count n))
    (items-other limits.length pairs p (kept_keys limits.count pairs) out) (omega arith)
more-by limits pairs p false true r e h l =
    same-keys limits pairs p false true e h (keys-there limits.count pairs p e h)
    ∙ ap₂ (λ items n. made items (capped_count n))
    (items-own limits.length pairs p (kept_keys limits.count pairs)) (omega arith)
more-by limits pairs p false false true e h l =
    let keys : List (List ℕ) = kept_keys limits.count pairs in
    let new = keys-new limits.count pairs p e h (ltb-true _ _ l) in
    ap (λ ks. made (map (at_key limits.length (pairs ++ p ∷ [])) ks)
    (capped_count (count_by (is_dropped ks) (pairs ++ p ∷ []))))
    new.0
    ∙ ap₂ (λ items n. made items (capped_count n)) (new-items limits.length pairs p keys h)
    (new-count keys pairs p e new.1)
more-by limits pairs p false false false e h l =
    same-keys limits pairs p false false e h (keys-full limits.count pairs p e (ltb-false _ _ l))
    ∙ ap₂ (λ items n. made items n)
    (items-other limits.length pairs p (kept_keys limits.count pairs) h)
    (counted-more (count_by (is_dropped (kept_keys limits.count pairs)) pairs))

-- What is kept of the pairs so far and one more.
pub attributes-more : (limits : Limits) (pairs : List Attribute) (p : Attribute)
    → attributes limits (pairs ++ p ∷ []) ≡ set_one limits (attributes limits pairs) p
unfolding attributes
attributes-more limits pairs p =
    more-by limits pairs p (is_empty p.key)
    (list_any (has_key p.key) (attributes limits pairs).items)
    (nat_lt (length (attributes limits pairs).items) limits.count)
    refl (sym (in-items limits.length pairs p.key (kept_keys limits.count pairs)))
    (ap (λ n. nat_lt n limits.count)
    (sym (length-map (kept_keys limits.count pairs) (at_key limits.length pairs))))
