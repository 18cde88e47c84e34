-- Lists: their elements, their distinct keys, and the places of the first.
use Rattle.std.proofs.Common.{◌≡◌, ◌≢◌, ◌⊎◌, inl, inr, refl, sym, ap, subst, ◌∙◌, ℕ, zero, suc, ◌<◌}
use Rattle.std.proofs.Common.{◌+◌, List, [], ◌∷◌, ◌++◌, map, filter, cond, take, length, get_or}
use Rattle.std.proofs.Common.{Bool, true, false, not, ◌&&◌, arith}
use Rattle.std.specs.Bool.{Decides}
use Rattle.std.specs.List.{All, AllPairs, Contains, list_any, position_or_len}
use Rattle.std.proofs.lemmas.Bool.{true≢false, false≢true}
use Rattle.std.proofs.lemmas.List.{length-map, length-take, get_or-map, get_or-take}
use Rattle.std.proofs.lemmas.List.Elements.{All-nil, All-cons, All-head, All-tail, All-filter}
use Rattle.std.proofs.lemmas.List.Elements.{All-weaker, filter_passes, filter-append}
use Rattle.std.proofs.lemmas.List.Elements.{Contains-append_right}
use Rattle.std.proofs.lemmas.List.Kept.{AllPairs-cons, AllPairs-filter}
use Rattle.std.proofs.lemmas.List.Folds.{list_any-from_Any}
use Rattle.std.proofs.lemmas.Map.Made.{Contains-tail}
use Rattle.model_span.specs.Attributes.{distinct_of, last_or}
use Rattle.law_export.specs.Keeping.{BeginsWith}

-- ---- elements

-- A list contains its first element.
pub contains-here : {A : Type 0} (x : A) (xs : List A) → Contains (x ∷ xs) x
contains-here x xs = (0, omega arith, refl)

-- A list contains what its rest contains.
pub contains-later : {A : Type 0} (y : A) (xs : List A) (x : A) → Contains xs x
    → Contains (y ∷ xs) x
contains-later y xs x h = Contains-append_right (y ∷ []) xs x h

-- An element of a list is its first one or is in the rest.
pub contains-cases : {A : Type 0} (y : A) (xs : List A) (x : A) → Contains (y ∷ xs) x
    → (y ≡ x) ⊎ Contains xs x
contains-cases y xs x h = go h.0 h.1 h.2
  where
    go : (k : ℕ) → k < length (y ∷ xs) → get_or (y ∷ xs) k x ≡ x → (y ≡ x) ⊎ Contains xs x
    go zero l e = inl e
    go (suc k) l e = inr (k, omega (arith, l), e)

-- The empty list contains no element.
pub contains-nil : {A : Type 0} (x : A) → Contains [] x → ⊥
contains-nil x h = omega (arith, h.1)

-- A mapped list contains the image of each element of the list.
pub contains-map : {A B : Type 0} (f : A → B) (xs : List A) (x : A) → Contains xs x
    → Contains (map f xs) (f x)
contains-map f xs x h = (
  h.0,
  subst (λ n. h.0 < n) (sym (length-map xs f)) h.1,
  get_or-map f xs h.0 x (f x) h.1 ∙ ap f h.2,
)

-- A filtered list contains each element of the list that passes the test.
pub contains-filter : {A : Type 0} (p : A → Bool) (xs : List A) (x : A) → p x ≡ true → Contains xs x
    → Contains (filter p xs) x
contains-filter p [] x e h = h
contains-filter {A = A} p (y ∷ xs) x e h =
    go (p y) refl (contains-filter p xs x e) (contains-cases y xs x h)
  where
    go : (t : Bool) → p y ≡ t → (Contains xs x → Contains (filter p xs) x) → (y ≡ x) ⊎ Contains xs x
        → Contains (cond t (y ∷ filter p xs) (filter p xs)) x
    go true f ih (inl here) =
        subst (λ z. Contains (z ∷ filter p xs) x) (sym here) (contains-here x (filter p xs))
    go true f ih (inr later) = contains-later y (filter p xs) x (ih later)
    go false f ih (inl here) = absurd (true≢false (sym e ∙ ap p (sym here) ∙ f))
    go false f ih (inr later) = ih later

-- A test passes in a list if it passes at an element of the list.
pub any-contains : {A : Type 0} (test : A → Bool) (xs : List A) (x : A) → test x ≡ true
    → Contains xs x → list_any test xs ≡ true
any-contains test xs x e h = list_any-from_Any test xs (h.0, x, h.1, h.2, e)

-- The last of a list with one more element is this element.
pub last-append : {A : Type 0} (d : A) (xs : List A) (y : A) → last_or d (xs ++ y ∷ []) ≡ y
last-append d [] y = refl
last-append d (x ∷ xs) y = last-append x xs y

-- ---- pairs of elements

-- A relation of all pairs of a list holds of all pairs of its front.
pub all-pairs-take : {A : Type 0} (R : A → A → Type 0) (n : ℕ) (xs : List A) → AllPairs R xs
    → AllPairs R (take n xs)
all-pairs-take R n xs h i j d below within =
    let size = length-take n xs in
    subst (λ a. R a (get_or (take n xs) j d))
    (sym (get_or-take n xs i d (omega (arith, size, below, within))))
    (subst (R (get_or xs i d)) (sym (get_or-take n xs j d (omega (arith, size, within))))
    (h i j d below (omega (arith, size, within))))

-- A relation holds of all pairs of a mapped list if it holds of the images of all pairs.
pub all-pairs-map : {A B : Type 0} (f : A → B) (R : B → B → Type 0) (xs : List A)
    → AllPairs (λ x y. R (f x) (f y)) xs → AllPairs R (map f xs)
all-pairs-map f R [] h i j d below within = absurd (omega (arith, within))
all-pairs-map f R (x ∷ xs) h i j d below within =
    let size = length-map (x ∷ xs) f in
    subst (λ a. R a (get_or (map f (x ∷ xs)) j d))
    (sym (get_or-map f (x ∷ xs) i x d (omega (arith, size, below, within))))
    (subst (R (f (get_or (x ∷ xs) i x)))
    (sym (get_or-map f (x ∷ xs) j x d (omega (arith, size, within))))
    (h i j x below (omega (arith, size, within))))

-- Pairs that are related are related otherwise too, if all elements have a property that makes it
-- so.
pub all-pairs-where : {A : Type 0} (P : A → Type 0) (R S : A → A → Type 0)
    → ((x y : A) → P x → P y → R x y → S x y) → (xs : List A) → All P xs → AllPairs R xs
    → AllPairs S xs
all-pairs-where P R S f xs p h i j d below within =
    f _ _ (p i d (omega (arith, below, within))) (p j d within) (h i j d below within)

-- ---- beginnings

-- The first elements of a list begin those of the list with more after it.
pub begins-take : {A : Type 0} (n : ℕ) (xs ys : List A) → BeginsWith (take n (xs ++ ys)) (take n xs)
begins-take zero xs ys = ([], refl)
begins-take (suc n) [] ys = (take (suc n) ys, refl)
begins-take (suc n) (x ∷ xs) ys = let ih = begins-take n xs ys in (ih.0, ap (λ l. x ∷ l) ih.1)

-- The distinct elements of a list begin those of the list with more after it.
pub begins-distinct : {A : Type 0} (same : A → A → Bool) (xs ys : List A)
    → BeginsWith (distinct_of same (xs ++ ys)) (distinct_of same xs)
begins-distinct same [] ys = (distinct_of same ys, refl)
begins-distinct same (x ∷ xs) ys =
    let ih = begins-distinct same xs ys in (
      filter (λ z. not (same x z)) ih.0,
      ap (λ l. x ∷ filter (λ z. not (same x z)) l) ih.1
          ∙ ap (λ l. x ∷ l) (filter-append (λ z. not (same x z)) (distinct_of same xs) ih.0),
    )

-- ---- distinct keys

module _ {A : Type 0} (same : A → A → Bool) (decides : (x y : A) → Decides (same x y) (x ≡ y)) where
  -- Elements that the test tells apart differ.
  pub apart : (x y : A) → not (same x y) ≡ true → x ≢ y
  apart x y h e = absurd (false≢true (ap not (sym ((decides x y).1 e)) ∙ h))

  -- whether the second differs from the first
  abbrev pub differs : A → A → Bool
  differs x y = not (same x y)

  -- A property of all elements of a list holds of all its distinct elements.
  pub all-distinct : (P : A → Type 0) (xs : List A) → All P xs → All P (distinct_of same xs)
  all-distinct P [] h = All-nil P
  all-distinct P (x ∷ xs) h =
      All-cons P x (filter (differs x) (distinct_of same xs)) (All-head P x xs h)
      (All-filter (differs x) P (distinct_of same xs) (all-distinct P xs (All-tail P x xs h)))

  -- No two of the distinct elements of a list are equal.
  pub distinct-apart : (xs : List A) → AllPairs (λ x y. x ≢ y) (distinct_of same xs)
  distinct-apart [] = λ i j d below within. absurd (omega (arith, within))
  distinct-apart (x ∷ xs) =
      AllPairs-cons (λ y z. y ≢ z) x (filter (differs x) (distinct_of same xs))
      (All-weaker (λ y. differs x y ≡ true) (λ y. x ≢ y) (apart x)
      (filter (differs x) (distinct_of same xs))
      (filter_passes (differs x) (distinct_of same xs)))
      (AllPairs-filter (λ y z. y ≢ z) (differs x) (distinct_of same xs) (distinct-apart xs))

  -- Each element of a list is among its distinct elements.
  pub contains-distinct : (xs : List A) (x : A) → Contains xs x → Contains (distinct_of same xs) x
  contains-distinct [] x h = h
  contains-distinct (y ∷ xs) x h = go (same y x) refl (contains-distinct xs x)
    where
      go : (t : Bool) → same y x ≡ t → (Contains xs x → Contains (distinct_of same xs) x)
          → Contains (y ∷ filter (differs y) (distinct_of same xs)) x
      go true e ih =
          subst (λ z. Contains (y ∷ filter (differs y) (distinct_of same xs)) z) ((decides y x).0 e)
          (contains-here y (filter (differs y) (distinct_of same xs)))
      go false e ih = contains-later y (filter (differs y) (distinct_of same xs)) x
          (contains-filter (differs y) (distinct_of same xs) x (ap not e)
          (ih (Contains-tail y xs x (apart y x (ap not e)) h)))

  -- how many elements come before the first one with a key
  abbrev pub place : {B : Type 0} → (B → A) → List B → A → ℕ
  place key bs x = position_or_len (λ b. same x (key b)) bs

  place-own : {B : Type 0} (key : B → A) (b : B) (bs : List B) → place key (b ∷ bs) (key b) ≡ 0
  place-own key b bs = rw ((decides (key b) (key b)).1 refl) refl

  place-other : {B : Type 0} (key : B → A) (b : B) (bs : List B) (x : A) → differs (key b) x ≡ true
      → place key (b ∷ bs) x ≡ 1 + place key bs x
  place-other key b bs x h = go (same x (key b)) refl
    where
      go : (t : Bool) → same x (key b) ≡ t
          → cond (not t) (1 + place key bs x) 0 ≡ 1 + place key bs x
      go true e = absurd (apart (key b) x h (sym ((decides x (key b)).0 e)))
      go false e = refl

  -- Distinct keys are in the order of their first places.
  pub distinct-in_order : {B : Type 0} (key : B → A) (bs : List B)
      → AllPairs (λ x y. place key bs x < place key bs y) (distinct_of same (map key bs))
  distinct-in_order key [] = λ i j d below within. absurd (omega (arith, within))
  distinct-in_order key (b ∷ bs) =
      let others : List A = filter (differs (key b)) (distinct_of same (map key bs)) in
      let differ = filter_passes (differs (key b)) (distinct_of same (map key bs)) in
      AllPairs-cons (λ x y. place key (b ∷ bs) x < place key (b ∷ bs) y) (key b) others
      (All-weaker (λ y. differs (key b) y ≡ true)
      (λ y. place key (b ∷ bs) (key b) < place key (b ∷ bs) y) first others differ)
      (all-pairs-where (λ y. differs (key b) y ≡ true) (λ x y. place key bs x < place key bs y)
      (λ x y. place key (b ∷ bs) x < place key (b ∷ bs) y) later others differ
      (AllPairs-filter (λ x y. place key bs x < place key bs y) (differs (key b))
      (distinct_of same (map key bs)) (distinct-in_order key bs)))
    where
      first : (y : A) → differs (key b) y ≡ true → place key (b ∷ bs) (key b) < place key (b ∷ bs) y
      first y h =
          let own = place-own key b bs in
          let other = place-other key b bs y h in
          omega (arith, own, other)

      later : (x y : A) → differs (key b) x ≡ true → differs (key b) y ≡ true
          → place key bs x < place key bs y → place key (b ∷ bs) x < place key (b ∷ bs) y
      later x y h k l =
          let ex = place-other key b bs x h in
          let ey = place-other key b bs y k in
          omega (arith, ex, ey, l)

-- ---- places in a part of a list

part-first : (b c : Bool) (m n i j : ℕ) → (m < n → i < j)
    → cond (not b) (1 + m) 0 < cond (not c) (1 + n) 0
    → cond (not b) (1 + i) 0 < cond (not c) (1 + j) 0
part-first true true m n i j h l = absurd (omega (arith, l))
part-first true false m n i j h l = omega arith
part-first false true m n i j h l = absurd (omega (arith, l))
part-first false false m n i j h l = let k = h (omega (arith, l)) in omega (arith, k)

-- What comes first in a filtered part of a list comes first in the whole list.
pub place-filter : {A : Type 0} (p s t : A → Bool) (xs : List A)
    → position_or_len s (filter p xs) < position_or_len t (filter p xs)
    → position_or_len (λ x. p x && s x) xs < position_or_len (λ x. p x && t x) xs
place-filter p s t [] l = l
place-filter p s t (x ∷ xs) l = go (p x) (place-filter p s t xs) l
  where
    go : (a : Bool)
        → (position_or_len s (filter p xs) < position_or_len t (filter p xs)
        → position_or_len (λ y. p y && s y) xs < position_or_len (λ y. p y && t y) xs) →
        position_or_len s (cond a (x ∷ filter p xs) (filter p xs))
        < position_or_len t (cond a (x ∷ filter p xs) (filter p xs)) →
        cond (not (a && s x)) (1 + position_or_len (λ y. p y && s y) xs) 0
        < cond (not (a && t x)) (1 + position_or_len (λ y. p y && t y) xs) 0
    go true ih h = part-first (s x) (t x) _ _ _ _ ih h
    go false ih h = let k = ih h in omega (arith, k)

-- A list filtered by one test and then by another is the list filtered by both.
pub filter-filter : {A : Type 0} (p q : A → Bool) (xs : List A)
    → filter q (filter p xs) ≡ filter (λ x. p x && q x) xs
filter-filter p q [] = refl
filter-filter p q (x ∷ xs) = go (p x) (filter-filter p q xs)
  where
    go : (t : Bool) → filter q (filter p xs) ≡ filter (λ y. p y && q y) xs
        → filter q (cond t (x ∷ filter p xs) (filter p xs))
        ≡ cond (t && q x) (x ∷ filter (λ y. p y && q y) xs) (filter (λ y. p y && q y) xs)
    go true ih = ap (λ l. cond (q x) (x ∷ l) l) ih
    go false ih = ih

-- A mapped list, filtered, is the map of the elements whose images pass the test.
pub filter-map : {A B : Type 0} (test : B → Bool) (f : A → B) (xs : List A)
    → filter test (map f xs) ≡ map f (filter (λ x. test (f x)) xs)
filter-map test f [] = refl
filter-map test f (x ∷ xs) = go (test (f x)) (filter-map test f xs)
  where
    go : (t : Bool) → filter test (map f xs) ≡ map f (filter (λ y. test (f y)) xs)
        → cond t (f x ∷ filter test (map f xs)) (filter test (map f xs))
        ≡ map f (cond t (x ∷ filter (λ y. test (f y)) xs) (filter (λ y. test (f y)) xs))
    go true ih = ap (λ l. f x ∷ l) ih
    go false ih = ih
