-- The groups of one item more, and groups as the model has them.
use Rattle.std.proofs.Common.{◌≡◌, ◌≢◌, Result, Ok, Err, OnErr, refl, sym, ap, ap₂, ◌∙◌, List, []}
use Rattle.std.proofs.Common.{◌∷◌, ◌++◌, map, filter, Bool, true, false, cond, not, ◌||◌}
use Rattle.std.specs.Bool.{Decides}
use Rattle.std.specs.Cmp.{IsEquivalence, both_ways}
use Rattle.std.specs.List.{AllByRecursion, list_any}
use Rattle.std.proofs.lemmas.Bool.{false≢true, true≢false}
use Rattle.std.proofs.lemmas.List.{append-nil, map-append}
use Rattle.std.proofs.lemmas.List.Elements.{filter-append}
use Rattle.std.proofs.lemmas.Map.Views.{any-filter_same}
use Rattle.model_span.specs.Attributes.{distinct_of}
use Rattle.model_span.proofs.Lists.{distinct-more, filter-keeps}
use Rattle.model_span.specs.Spans.{Resource, SpanData}
use Rattle.model_export.specs.Export.{Group, ResourceGroup, scope_eq, resource_eq, groups_by}
use Rattle.model_export.specs.Export.{groups}
use Rattle.otlp_proto.specs.Keyed.{group_view, with_item}

-- A test that decides equality is an equivalence.
pub equivalence : {K : Type 0} (same : K → K → Bool) → ((j k : K) → Decides (same j k) (j ≡ k))
    → IsEquivalence same
equivalence same d = record {
  refl = λ k. (d k k).1 refl;
  symm =
      λ j k. both_ways (same j k) (same k j) (λ e. (d k j).1 (sym ((d j k).0 e)))
      (λ e. (d j k).1 (sym ((d k j).0 e)));
  congr = λ j k l e. ap (λ i. same i l) ((d j k).0 e);
}

weaker : {A : Type 0} (P Q : A → Type 0) → ((x : A) → P x → Q x) → (xs : List A)
    → AllByRecursion P xs → AllByRecursion Q xs
weaker P Q step [] h = tt
weaker P Q step (x ∷ xs) h = (step x h.0, weaker P Q step xs h.1)

-- no key equals one after it
abbrev Apart : {K : Type 0} → (K → K → Bool) → List K → Type 0
Apart same [] = Unit {0}
Apart same (k ∷ ks) = AllByRecursion (λ j. same k j ≡ false) ks × Apart same ks

apart-filter : {K : Type 0} (same : K → K → Bool) (test : K → Bool) (ks : List K) → Apart same ks
    → Apart same (filter test ks)
apart-filter same test [] h = tt
apart-filter {K = K} same test (k ∷ ks) h = go (test k) (apart-filter same test ks h.1)
  where
    go : (t : Bool) → Apart same (filter test ks)
        → Apart same (cond t (k ∷ filter test ks) (filter test ks))
    go true rest = (filter-keeps (λ j. same k j ≡ false) test ks h.0, rest)
    go false rest = rest

others-kept : {K : Type 0} (same : K → K → Bool) (k : K) (ks : List K)
    → AllByRecursion (λ j. same k j ≡ false) (filter (λ j. not (same k j)) ks)
others-kept same k [] = tt
others-kept {K = K} same k (j ∷ ks) = go (same k j) refl (others-kept same k ks)
  where
    go : (t : Bool) → same k j ≡ t
        → AllByRecursion (λ i. same k i ≡ false) (filter (λ i. not (same k i)) ks)
        → AllByRecursion (λ i. same k i ≡ false)
        (cond (not t) (j ∷ filter (λ i. not (same k i)) ks) (filter (λ i. not (same k i)) ks))
    go true e rest = rest
    go false e rest = (e, rest)

distinct-apart : {K : Type 0} (same : K → K → Bool) (ks : List K) → Apart same (distinct_of same ks)
distinct-apart same [] = tt
distinct-apart same (k ∷ ks) = (
  others-kept same k (distinct_of same ks),
  apart-filter same (λ j. not (same k j)) (distinct_of same ks) (distinct-apart same ks),
)

-- A key is among the distinct ones just if it is among all.
any-distinct : {K : Type 0} (same : K → K → Bool) → IsEquivalence same → (k : K) (ks : List K)
    → list_any (λ j. same j k) (distinct_of same ks) ≡ list_any (λ j. same j k) ks
any-distinct same laws k [] = refl
any-distinct {K = K} same laws k (i ∷ ks) = go (same i k) refl (any-distinct same laws k ks)
  where
    unlike : same i k ≡ false → (j : K) (t : Bool) → same i j ≡ t → same j k ≡ true → not t ≡ true
    unlike e j true p h = absurd (false≢true (sym e ∙ laws.congr i j k p ∙ h))
    unlike e j false p h = refl

    go : (t : Bool) → same i k ≡ t
        → list_any (λ j. same j k) (distinct_of same ks) ≡ list_any (λ j. same j k) ks
        → (t || list_any (λ j. same j k) (filter (λ j. not (same i j)) (distinct_of same ks)))
        ≡ (t || list_any (λ j. same j k) ks)
    go true e rest = refl
    go false e rest =
        any-filter_same (λ j. same j k) (λ j. not (same i j)) true
        (λ j h. unlike e j (same i j) refl h) (distinct_of same ks)
        ∙ rest

module _ {K A : Type 0} (same : K → K → Bool) (laws : IsEquivalence same) (key_of : A → K) where
  -- the items of a key
  abbrev group_at : List A → K → Group K A
  group_at xs k = record { key = k; items = filter (λ x. same k (key_of x)) xs }

  own-more : (xs : List A) (x : A) (k : K) → same k (key_of x) ≡ true
      → record { key = k; items = filter (λ y. same k (key_of y)) xs ++ x ∷ [] }
      ≡ group_at (xs ++ x ∷ []) k
  own-more xs x k e =
      ap (λ ys. record { key = k; items = ys })
      (sym (filter-append (λ y. same k (key_of y)) xs (x ∷ [])
      ∙ ap (λ t. filter (λ y. same k (key_of y)) xs ++ cond t (x ∷ []) []) e))

  other-more : (xs : List A) (x : A) (k : K) → same k (key_of x) ≡ false
      → group_at xs k ≡ group_at (xs ++ x ∷ []) k
  other-more xs x k e =
      ap (λ ys. record { key = k; items = ys })
      (sym (filter-append (λ y. same k (key_of y)) xs (x ∷ [])
      ∙ ap (λ t. filter (λ y. same k (key_of y)) xs ++ cond t (x ∷ []) []) e ∙ append-nil _))

  others-more : (xs : List A) (x : A) (ks : List K)
      → AllByRecursion (λ k. same k (key_of x) ≡ false) ks
      → map (group_at xs) ks ≡ map (group_at (xs ++ x ∷ [])) ks
  others-more xs x [] h = refl
  others-more xs x (k ∷ ks) h =
      ap₂ (λ g gs. g ∷ gs) (other-more xs x k h.0) (others-more xs x ks h.1)

  spread : (xs : List A) (x : A) (ks : List K) → Apart same ks
      → with_item same (map (group_at xs) ks) (key_of x) x
      ≡ cond (list_any (λ k. same k (key_of x)) ks) (map (group_at (xs ++ x ∷ [])) ks)
      (map (group_at (xs ++ x ∷ [])) ks ++ record { key = key_of x; items = x ∷ [] } ∷ [])
  spread xs x [] h = refl
  spread xs x (k ∷ ks) h =
      go (same k (key_of x)) refl (list_any (λ j. same j (key_of x)) ks) (spread xs x ks h.1)
    where
      after : List (Group K A)
      after = map (group_at (xs ++ x ∷ [])) ks

      new : List (Group K A)
      new = record { key = key_of x; items = x ∷ [] } ∷ []

      unlike : same k (key_of x) ≡ true → (j : K) → same k j ≡ false → same j (key_of x) ≡ false
      unlike e j p = laws.symm j (key_of x) ∙ sym (laws.congr k (key_of x) j e) ∙ p

      go : (t : Bool) → same k (key_of x) ≡ t → (u : Bool)
          → with_item same (map (group_at xs) ks) (key_of x) x
          ≡ cond u (map (group_at (xs ++ x ∷ [])) ks)
          (map (group_at (xs ++ x ∷ [])) ks ++ record { key = key_of x; items = x ∷ [] } ∷ []) →
          with_item same (group_at xs k ∷ map (group_at xs) ks) (key_of x) x
          ≡ cond (t || u) (group_at (xs ++ x ∷ []) k ∷ map (group_at (xs ++ x ∷ [])) ks)
          ((group_at (xs ++ x ∷ []) k ∷ map (group_at (xs ++ x ∷ [])) ks)
          ++ record { key = key_of x; items = x ∷ [] } ∷ [])
      go true e u r =
          rw (laws.symm (key_of x) k, e)
          (ap₂ (λ g gs. g ∷ gs) (own-more xs x k e)
          (others-more xs x ks
          (weaker (λ j. same k j ≡ false) (λ j. same j (key_of x) ≡ false) (unlike e) ks h.0)))
      go false e true r =
          rw (laws.symm (key_of x) k, e) (ap₂ (λ g gs. g ∷ gs) (other-more xs x k e) r)
      go false e false r =
          rw (laws.symm (key_of x) k, e) (ap₂ (λ g gs. g ∷ gs) (other-more xs x k e) r)

  none-yet : (xs : List A) (k : K) → list_any (λ j. same j k) (map key_of xs) ≡ false
      → filter (λ y. same k (key_of y)) xs ≡ []
  none-yet [] k h = refl
  none-yet (x ∷ xs) k h = go (same (key_of x) k) refl h (none-yet xs k)
    where
      go : (t : Bool) → same (key_of x) k ≡ t
          → (t || list_any (λ j. same j k) (map key_of xs)) ≡ false
          → (list_any (λ j. same j k) (map key_of xs) ≡ false
          → filter (λ y. same k (key_of y)) xs ≡ []) →
          filter (λ y. same k (key_of y)) (x ∷ xs) ≡ []
      go true e r rest = absurd (true≢false r)
      go false e r rest = rw (laws.symm k (key_of x), e) (rest r)

  -- The last item comes after those of its key, or alone after all groups.
  pub groups-more : (xs : List A) (x : A)
      → groups_by same key_of (xs ++ x ∷ [])
      ≡ with_item same (groups_by same key_of xs) (key_of x) x
  unfolding groups_by
  groups-more xs x =
      let keys : distinct_of same (map key_of (xs ++ x ∷ []))
      ≡ cond (list_any (λ j. same j (key_of x)) (map key_of xs)) (distinct_of same (map key_of xs))
      (distinct_of same (map key_of xs) ++ key_of x ∷ []) =
      ap (distinct_of same) (map-append key_of xs (x ∷ []))
      ∙ distinct-more same (map key_of xs) (key_of x) in
      ap (map (group_at (xs ++ x ∷ []))) keys
      ∙ go (list_any (λ j. same j (key_of x)) (map key_of xs)) refl
      ∙ ap (λ t. cond t (map (group_at (xs ++ x ∷ [])) (distinct_of same (map key_of xs)))
      (map (group_at (xs ++ x ∷ [])) (distinct_of same (map key_of xs))
      ++ record { key = key_of x; items = x ∷ [] } ∷ []))
      (sym (any-distinct same laws (key_of x) (map key_of xs)))
      ∙ sym (spread xs x (distinct_of same (map key_of xs)) (distinct-apart same (map key_of xs)))
    where
      go : (t : Bool) → list_any (λ j. same j (key_of x)) (map key_of xs) ≡ t
          → map (group_at (xs ++ x ∷ []))
          (cond t (distinct_of same (map key_of xs))
          (distinct_of same (map key_of xs) ++ key_of x ∷ []))
          ≡ cond t (map (group_at (xs ++ x ∷ [])) (distinct_of same (map key_of xs)))
          (map (group_at (xs ++ x ∷ [])) (distinct_of same (map key_of xs))
          ++ record { key = key_of x; items = x ∷ [] } ∷ [])
      go true e = refl
      go false e =
          map-append (group_at (xs ++ x ∷ [])) (distinct_of same (map key_of xs)) (key_of x ∷ [])
          ∙ ap (λ g. map (group_at (xs ++ x ∷ [])) (distinct_of same (map key_of xs)) ++ g ∷ [])
          (sym (own-more xs x (key_of x) (laws.refl (key_of x)))
          ∙ ap (λ ys. record { key = key_of x; items = ys ++ x ∷ [] }) (none-yet xs (key_of x) e))

-- One more item, seen by views that agree on keys, is one more item in the view.
with_item-seen : {K J T U : Type 0} (eq : K → K → Bool) (same : J → J → Bool) (key : K → J)
    (item : T → U)
    → ((j k : K) → eq j k ≡ same (key j) (key k)) → (gs : List (Group K T)) (k : K) (x : T) →
    map (group_view key item) (with_item eq gs k x)
    ≡ with_item same (map (group_view key item) gs) (key k) (item x)
with_item-seen eq same key item agree [] k x = refl
with_item-seen {K = K} {T = T} eq same key item agree (g ∷ gs) k x =
    go (eq k g.key) (with_item-seen eq same key item agree gs k x)
    ∙ ap (λ t. cond t
    (record { key = key g.key; items = map item g.items ++ item x ∷ [] }
    ∷ map (group_view key item) gs)
    (group_view key item g ∷ with_item same (map (group_view key item) gs) (key k) (item x)))
    (agree k g.key)
  where
    go : (t : Bool)
        → map (group_view key item) (with_item eq gs k x)
        ≡ with_item same (map (group_view key item) gs) (key k) (item x)
        → map (group_view key item)
        (cond t (record { key = g.key; items = g.items ++ x ∷ [] } ∷ gs) (g ∷ with_item eq gs k x))
        ≡ cond t
        (record { key = key g.key; items = map item g.items ++ item x ∷ [] }
        ∷ map (group_view key item) gs)
        (group_view key item g ∷ with_item same (map (group_view key item) gs) (key k) (item x))
    go true rest =
        ap (λ ys. record { key = key g.key; items = ys } ∷ map (group_view key item) gs)
        (map-append item g.items (x ∷ []))
    go false rest = ap (λ hs. group_view key item g ∷ hs) rest

-- Groups that were those of some items are, with one more item, the groups of those and that item.
pub one-more : {K J T U : Type 0} (same : J → J → Bool) (key : K → J) (item : T → U)
    (key_of : U → J)
    → IsEquivalence same
    → (eq : K → K → Bool) (old new : List (Group K T)) (k : K) (x : T) (ys zs : List U) →
    new ≡ with_item eq old k x → ((j l : K) → eq j l ≡ same (key j) (key l))
    → map (group_view key item) old ≡ groups_by same key_of ys → key k ≡ key_of (item x)
    → zs ≡ ys ++ item x ∷ [] →
    map (group_view key item) new ≡ groups_by same key_of zs
one-more same key item key_of laws eq old new k x ys zs p agree before q r =
    ap (map (group_view key item)) p ∙ with_item-seen eq same key item agree old k x
    ∙ ap₂ (λ gs j. with_item same gs j (item x)) before q
    ∙ sym (groups-more same laws key_of ys (item x)) ∙ ap (groups_by same key_of) (sym r)

-- No items make no groups.
pub no-groups : {K A : Type 0} (same : K → K → Bool) (key_of : A → K)
    → groups_by same key_of [] ≡ []
unfolding groups_by
no-groups same key_of = refl

-- ---- the spans of each resource by scope

abbrev pub by_scope : Group Resource SpanData → ResourceGroup
by_scope g = record { key = g.key; items = groups_by scope_eq (λ x. x.scope) g.items }

-- Where no group is left, all spans are grouped.
pub all-grouped : (xs : List ResourceGroup) (left all : List (Group Resource SpanData))
    (spans : List SpanData)
    → xs ++ map by_scope left ≡ map by_scope all → left ≡ []
    → all ≡ groups_by resource_eq (λ x. x.resource) spans → xs ≡ groups spans
unfolding groups
all-grouped xs left all spans h none e =
    sym (append-nil xs) ∙ ap (λ ys. xs ++ map by_scope ys) (sym none) ∙ h ∙ ap (map by_scope) e

-- Where a group is left, there are spans.
pub some-spans : (xs : List ResourceGroup) (left more all : List (Group Resource SpanData))
    (y : Group Resource SpanData) (spans : List SpanData)
    → xs ++ map by_scope left ≡ map by_scope all → left ≡ y ∷ more →
    all ≡ groups_by resource_eq (λ x. x.resource) spans → spans ≢ []
some-spans xs left more all y spans h some e empty =
    let none : all ≡ [] =
    e ∙ ap (groups_by resource_eq (λ x. x.resource)) empty
    ∙ no-groups resource_eq (λ x. x.resource) in
    by xs (ap (λ ys. xs ++ map by_scope ys) (sym some) ∙ h ∙ ap (map by_scope) none)
  where
    by : (zs : List ResourceGroup) → zs ++ (by_scope y ∷ map by_scope more) ≡ [] → ⊥
    by [] p = cc
    by (z ∷ zs) p = cc

-- What holds anyway holds where there is an error.
pub on-err : {T E P : Type 0} (r : Result T E) → P → OnErr r P
on-err (Ok x) p = tt
on-err (Err e) p = p
