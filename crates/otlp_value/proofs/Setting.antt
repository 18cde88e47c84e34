-- What the code does to the pairs of a list is what one more pair does to what is kept.
use Rattle.std.proofs.Common.{◌≡◌, refl, sym, ap, ap₂, subst, ◌∙◌, ℕ, zero, suc, ◌<◌, ◌≤◌, ◌+◌}
use Rattle.std.proofs.Common.{List, [], ◌∷◌, ◌++◌, map, filter, cond, take, length, Bool, true}
use Rattle.std.proofs.Common.{false, not, ◌||◌, arith, bytes_eq, Some, None, if◌then◌else◌, nat_lt}
use Rattle.std.proofs.Common.{nat_eq, get_or}
use Rattle.std.proofs.Math.ListN.{set, get_or-map}
use Rattle.std.proofs.Math.Seq.{take-nil}
use Rattle.std.specs.List.{list_any, position, position_or_len}
use Rattle.std.proofs.lemmas.Bool.{true≢false, false≢true, ltb-false, or_from, or_parts}
use Rattle.std.proofs.lemmas.Bool.Decides.{nat_tests}
use Rattle.std.proofs.lemmas.List.{length-map, map-append, map-set}
use Rattle.std.proofs.lemmas.List.Folds.{list_any_at}
use Rattle.std.proofs.lemmas.List.Quantifiers.{position-Some}
use lib.Pointwise.{bytes_decides}
use Rattle.model_span.specs.Attributes.{Value, Attribute, AttributeList, Limits, Kept, SetsPair}
use Rattle.model_span.specs.Attributes.{attributes, capped_count, cut, distinct_of, has_key}
use Rattle.model_span.specs.Attributes.{is_empty, kept_keys, last_value}
use Rattle.model_span.proofs.Setting.{set_by, set_one, attributes-more}

-- ---- what no element passes

any-filter : {A : Type 0} (test keep : A → Bool) (xs : List A) → list_any test xs ≡ false
    → list_any test (filter keep xs) ≡ false
any-filter test keep [] h = refl
any-filter test keep (x ∷ xs) h =
    let parts = or_parts (test x) (list_any test xs) h in
    go (keep x) parts.0 (any-filter test keep xs parts.1)
  where
    go : (k : Bool) → test x ≡ false → list_any test (filter keep xs) ≡ false
        → list_any test (cond k (x ∷ filter keep xs) (filter keep xs)) ≡ false
    go true e ih = or_from _ _ e ih
    go false e ih = ih

any-take : {A : Type 0} (test : A → Bool) (n : ℕ) (xs : List A) → list_any test xs ≡ false
    → list_any test (take n xs) ≡ false
any-take test zero xs h = refl
any-take test (suc n) [] h = refl
any-take test (suc n) (x ∷ xs) h =
    let parts = or_parts (test x) (list_any test xs) h in
    or_from _ _ parts.0 (any-take test n xs parts.1)

-- ---- keys

same-key : (a b : List ℕ) → bytes_eq a b ≡ true → a ≡ b
same-key a b h = (bytes_decides a b).0 h

own-key : (a : List ℕ) → bytes_eq a a ≡ true
own-key a = (bytes_decides a a).1 refl

abbrev among : List ℕ → List (List ℕ) → Bool
among k keys = list_any (λ l. bytes_eq l k) keys

-- Each key occurs once.
abbrev IsApart : List (List ℕ) → Type 0
IsApart [] = Unit {0}
IsApart (k ∷ keys) = (among k keys ≡ false) × IsApart keys

apart-filter : (keep : List ℕ → Bool) (keys : List (List ℕ)) → IsApart keys
    → IsApart (filter keep keys)
apart-filter keep [] h = tt
apart-filter keep (k ∷ keys) h = go (keep k) (apart-filter keep keys h.1)
  where
    go : (t : Bool) → IsApart (filter keep keys)
        → IsApart (cond t (k ∷ filter keep keys) (filter keep keys))
    go true ih = (any-filter (λ l. bytes_eq l k) keep keys h.0, ih)
    go false ih = ih

apart-take : (n : ℕ) (keys : List (List ℕ)) → IsApart keys → IsApart (take n keys)
apart-take zero keys h = tt
apart-take (suc n) [] h = tt
apart-take (suc n) (k ∷ keys) h = (any-take (λ l. bytes_eq l k) n keys h.0, apart-take n keys h.1)

left-out : (k : List ℕ) (keys : List (List ℕ))
    → among k (filter (λ l. not (bytes_eq k l)) keys) ≡ false
left-out k [] = refl
left-out k (l ∷ keys) = go (bytes_eq k l) refl (bytes_eq l k) refl (left-out k keys)
  where
    rest : List (List ℕ)
    rest = filter (λ z. not (bytes_eq k z)) keys

    go : (t : Bool) → bytes_eq k l ≡ t → (u : Bool) → bytes_eq l k ≡ u → among k rest ≡ false
        → among k (cond (not t) (l ∷ rest) rest) ≡ false
    go true e u f ih = ih
    go false e true f ih =
        absurd (true≢false (sym (own-key l) ∙ ap (λ z. bytes_eq z l) (same-key l k f) ∙ e))
    go false e false f ih = or_from _ _ f ih

apart-distinct : (keys : List (List ℕ)) → IsApart (distinct_of bytes_eq keys)
apart-distinct [] = tt
apart-distinct (k ∷ keys) = (
  left-out k (distinct_of bytes_eq keys),
  apart-filter (λ l. not (bytes_eq k l)) (distinct_of bytes_eq keys) (apart-distinct keys),
)

abbrev keys_of : List Attribute → List (List ℕ)
keys_of items = map (λ q. q.key) items

-- Each key that is kept occurs once.
kept-apart : (limits : Limits) (pairs : List Attribute)
    → IsApart (keys_of (attributes limits pairs).items)
unfolding attributes
kept-apart limits pairs =
    subst IsApart (sym (back (kept_keys limits.count pairs)))
    (apart-take limits.count _ (apart-distinct _))
  where
    back : (keys : List (List ℕ))
        → keys_of
        (map (λ k. record { key = k; value = cut limits.length (last_value pairs k) }) keys)
        ≡ keys
    back [] = refl
    back (k ∷ keys) = ap (λ l. k ∷ l) (back keys)

in-keys : (k : List ℕ) (items : List Attribute)
    → among k (keys_of items) ≡ list_any (has_key k) items
in-keys k [] = refl
in-keys k (q ∷ items) = ap (λ t. bytes_eq q.key k || t) (in-keys k items)

-- ---- a new value at a key

abbrev renewed : List ℕ → Value → Attribute → Attribute
renewed k v q = if has_key k q then record { key = q.key; value = v } else q

renewed-none : (k : List ℕ) (v : Value) (items : List Attribute)
    → list_any (has_key k) items ≡ false → map (renewed k v) items ≡ items
renewed-none k v [] h = refl
renewed-none k v (q ∷ items) h =
    let parts = or_parts (has_key k q) (list_any (has_key k) items) h in
    ap₂ (λ x l. x ∷ l) (ap (λ t. cond t (record { key = q.key; value = v }) q) parts.0)
    (renewed-none k v items parts.1)

-- A write at the place of a key that occurs once renews the value of that key.
set-renews : (k : List ℕ) (v : Value) (items : List Attribute) (i : ℕ) (d : Attribute)
    → IsApart (keys_of items) → i < length items → has_key k (get_or items i d) ≡ true →
    set items i (record { key = (get_or items i d).key; value = v }) ≡ map (renewed k v) items
set-renews k v [] i d h l e = absurd (omega (arith, l))
set-renews k v (q ∷ items) zero d h l e =
    ap₂ (λ x l. x ∷ l) (ap (λ t. cond t (record { key = q.key; value = v }) q) (sym e))
    (sym (renewed-none k v items
    (ap (λ z. list_any (has_key z) items) (sym (same-key q.key k e)) ∙ sym (in-keys q.key items)
    ∙ h.0)))
set-renews k v (q ∷ items) (suc i) d h l e =
    ap₂ (λ x l. x ∷ l) (go (has_key k q) refl) (set-renews k v items i d h.1 (omega (arith, l)) e)
  where
    go : (t : Bool) → has_key k q ≡ t → q ≡ cond t (record { key = q.key; value = v }) q
    go true f =
        absurd (false≢true (sym h.0 ∙ in-keys q.key items
        ∙ ap (λ z. list_any (has_key z) items) (same-key q.key k f)
        ∙ list_any_at (has_key k) items i d (omega (arith, l)) e))
    go false f = refl

-- ---- tests

is-lt : (a b : ℕ) → a < b → nat_lt a b ≡ true
is-lt a b l = grind (arith, nat_tests)

not-lt : (a b : ℕ) → b ≤ a → nat_lt a b ≡ false
not-lt a b l = grind (arith, nat_tests)

-- A text is empty if its length is 0.
pub is_empty-length : (k : List ℕ) (t : Bool) → nat_eq (length k) 0 ≡ t → is_empty k ≡ t
is_empty-length [] t h = h
is_empty-length (b ∷ bs) t h = sym (more (length bs)) ∙ h
  where
    more : (n : ℕ) → nat_eq (suc n) 0 ≡ false
    more n = grind (arith, nat_tests)

-- ---- where a key is

any-map : {A B : Type 0} (test : B → Bool) (f : A → B) (xs : List A)
    → list_any test (map f xs) ≡ list_any (λ x. test (f x)) xs
any-map test f [] = refl
any-map test f (x ∷ xs) = ap (λ t. test (f x) || t) (any-map test f xs)

any-position : {A : Type 0} (test : A → Bool) (xs : List A) → length xs ≤ position_or_len test xs
    → list_any test xs ≡ false
any-position test [] l = refl
any-position test (x ∷ xs) l = go (test x) l (any-position test xs)
  where
    go : (t : Bool) → suc (length xs) ≤ cond (not t) (1 + position_or_len test xs) 0
        → (length xs ≤ position_or_len test xs → list_any test xs ≡ false)
        → (t || list_any test xs) ≡ false
    go true l ih = absurd (omega (arith, l))
    go false l ih = ih (omega (arith, l))

position-None : {A : Type 0} (test : A → Bool) (xs : List A) → position test xs ≡ None
    → list_any test xs ≡ false
position-None test xs h = go (nat_lt (position_or_len test xs) (length xs)) refl h
  where
    go : (t : Bool) → nat_lt (position_or_len test xs) (length xs) ≡ t
        → cond t (Some (position_or_len test xs)) None ≡ None → list_any test xs ≡ false
    go true e f = cc
    go false e f = any-position test xs (ltb-false _ _ e)

-- ---- one more pair, in each of the cases

abbrev pub listed : Limits → ℕ → List Attribute → AttributeList
listed limits dropped items =
    record { limits = limits; kept = record { items = items; dropped = dropped } }

sets : (limits : Limits) (old new : Kept Attribute) (p : Attribute)
    → ((pairs : List Attribute) → old ≡ attributes limits pairs → new ≡ set_one limits old p) →
    SetsPair p (record { limits = limits; kept = old }) (record { limits = limits; kept = new })
sets limits old new p h = record {
  limits = refl;
  value =
      λ pairs e. h pairs e ∙ ap (λ k. set_one limits k p) e ∙ sym (attributes-more limits pairs p);
}

-- A pair with an empty key leaves the list as it is.
pub sets-ignored : (list : AttributeList) (p : Attribute) → is_empty p.key ≡ true
    → SetsPair p list list
sets-ignored list p none =
    sets list.limits list.kept list.kept p
    (λ pairs e. sym (ap (λ t. set_by t (list_any (has_key p.key) list.kept.items)
    (nat_lt (length list.kept.items) list.limits.count) list.limits list.kept p)
    none))

-- The pairs are in some form of the code's, which `view` takes into the model's.
module _ {P : Type 0} (view : P → Attribute) (limits : Limits) (pairs : List P) (dropped : ℕ)
    (p : Attribute) (named : is_empty p.key ≡ false) where
  abbrev old : Kept Attribute
  old = record { items = map view pairs; dropped = dropped }

  -- The tests of the key and of the room decide what is set.
  by_tests : (there room : Bool) → list_any (has_key p.key) (map view pairs) ≡ there
      → nat_lt (length (map view pairs)) limits.count ≡ room
      → set_by false there room limits old p ≡ set_one limits old p
  by_tests there room s t =
      sym (ap (λ e. set_by e (list_any (has_key p.key) (map view pairs))
      (nat_lt (length (map view pairs)) limits.count) limits old p)
      named
      ∙ ap₂ (λ a b. set_by false a b limits old p) s t)

  -- A pair whose key is in the list replaces the value there.
  pub sets-there : (i : ℕ) (x y : P) → position (λ q. has_key p.key (view q)) pairs ≡ Some i
      → x ≡ get_or pairs i x
      → view y ≡ record { key = (view x).key; value = cut limits.length p.value } →
      SetsPair p (listed limits dropped (map view pairs))
      (listed limits dropped (map view (set pairs i y)))
  sets-there i x y at is new =
      sets limits old _ p
      (λ kept e.
      written kept e ∙ by_tests true (nat_lt (length (map view pairs)) limits.count) found refl)
    where
      place : (i < length pairs) × (has_key p.key (view (get_or pairs i x)) ≡ true)
          × ((k : ℕ) → k < i → has_key p.key (view (get_or pairs k x)) ≡ false)
      place = position-Some (λ q. has_key p.key (view q)) pairs i x at

      inside : i < length (map view pairs)
      inside = let e = length-map pairs view in omega (arith, place.0, e)

      here : get_or (map view pairs) i (view x) ≡ view x
      here = get_or-map view pairs i x ∙ ap view (sym is)

      its_key : has_key p.key (get_or (map view pairs) i (view x)) ≡ true
      its_key = ap (has_key p.key) (get_or-map view pairs i x) ∙ place.1

      found : list_any (has_key p.key) (map view pairs) ≡ true
      found = list_any_at (has_key p.key) (map view pairs) i (view x) inside its_key

      written : (kept : List Attribute) → old ≡ attributes limits kept
          → record { items = map view (set pairs i y); dropped = dropped }
          ≡ set_by false true (nat_lt (length (map view pairs)) limits.count) limits old p
      written kept e = ap (λ items. record { items = items; dropped = dropped })
          (map-set view pairs i y
          ∙ ap (set (map view pairs) i)
          (new ∙ ap (λ q. record { key = q.key; value = cut limits.length p.value }) (sym here))
          ∙ set-renews p.key (cut limits.length p.value) (map view pairs) i (view x)
          (subst (λ k. IsApart (keys_of k.items)) (sym e) (kept-apart limits kept)) inside its_key)

  module _ (absent : position (λ q. has_key p.key (view q)) pairs ≡ None) where
    -- A key that has no place in the list is not in what is kept.
    pub is-new : list_any (has_key p.key) (map view pairs) ≡ false
    is-new =
        any-map (has_key p.key) view pairs
        ∙ position-None (λ q. has_key p.key (view q)) pairs absent

    -- A pair with a new key is put at the end, where the count limit leaves room.
    pub sets-new : (y : P) → length pairs < limits.count
        → view y ≡ record { key = p.key; value = cut limits.length p.value } →
        SetsPair p (listed limits dropped (map view pairs))
        (listed limits dropped (map view (pairs ++ y ∷ [])))
    sets-new y room new = sets limits old _ p (λ kept e.
        ap (λ items. record { items = items; dropped = dropped })
        (map-append view pairs (y ∷ []) ∙ ap (λ q. map view pairs ++ q ∷ []) new)
        ∙ by_tests false true is-new
        (ap (λ n. nat_lt n limits.count) (length-map pairs view) ∙ is-lt _ _ room))

    -- A pair with a new key is counted as dropped, where the list is full.
    pub sets-full : limits.count ≤ length pairs
        → SetsPair p (listed limits dropped (map view pairs))
        (listed limits (capped_count (dropped + 1)) (map view pairs))
    sets-full full =
        sets limits old _ p
        (λ kept e. by_tests false false is-new
        (ap (λ n. nat_lt n limits.count) (length-map pairs view) ∙ not-lt _ _ full))

-- Nothing is kept or counted as dropped of no pairs.
pub attributes-nil : (limits : Limits) → record { items = []; dropped = 0 } ≡ attributes limits []
unfolding attributes
attributes-nil limits =
    ap (λ keys. record {
      items = map (λ k. record { key = k; value = cut limits.length (last_value [] k) }) keys;
      dropped = 0;
    })
    (sym (take-nil limits.count))
