-- The parts of a list by a key: what has each of the distinct keys.
use Rattle.std.proofs.Common.{◌≡◌, ◌≢◌, ◌⊎◌, inl, inr, refl, sym, ap, ap₂, subst, ◌∙◌, List, []}
use Rattle.std.proofs.Common.{◌∷◌, ◌++◌, map, filter, flat_map, cond, length, Bool, true, false}
use Rattle.std.proofs.Common.{not, ◌&&◌, ◌||◌, arith}
use Rattle.std.specs.Bool.{Decides}
use Rattle.std.specs.List.{All, AllByRecursion, Contains, IsDistinct, list_any}
use Rattle.std.specs.List.Sorted.{IsPermutation}
use Rattle.std.proofs.lemmas.Bool.{true≢false, false≢true}
use Rattle.std.proofs.lemmas.List.Elements.{All-weaker, All-contains_itself, recursion_from_All}
use Rattle.std.proofs.lemmas.List.Sorted.{IsPermutation-refl, IsPermutation-trans}
use Rattle.std.proofs.lemmas.List.Sorted.{IsPermutation-append, IsPermutation-append_right}
use Rattle.std.proofs.lemmas.List.Sorted.{IsPermutation-filter_both}
use Rattle.std.proofs.lemmas.Map.Made.{IsDistinct-from_AllPairs}
use Rattle.model_span.specs.Attributes.{distinct_of}
use Rattle.law_export.proofs.Lists.{contains-nil, contains-cases, contains-map, any-contains}
use Rattle.law_export.proofs.Lists.{all-distinct, distinct-apart, contains-distinct, filter-filter}

-- A list with an element isn't empty.
pub not-nothing : {A : Type 0} (x : A) (xs : List A) → x ∷ xs ≢ []
not-nothing x xs e = omega (arith, ap length e)

-- Two functions whose results have the same elements gather the same elements from a list.
pub flat_map-permutes : {A B : Type 0} (f g : A → List B) → ((x : A) → IsPermutation (f x) (g x))
    → (xs : List A) → IsPermutation (flat_map f xs) (flat_map g xs)
flat_map-permutes f g each [] = IsPermutation-refl []
flat_map-permutes f g each (x ∷ xs) =
    IsPermutation-append (f x) (g x) (flat_map f xs) (flat_map g xs) (each x)
    (flat_map-permutes f g each xs)

module _ {A K : Type 0} (same : K → K → Bool) (decides : (x y : K) → Decides (same x y) (x ≡ y))
    (key : A → K) where
  -- the elements that have the key
  abbrev pub part : List A → K → List A
  part xs k = filter (λ x. same k (key x)) xs

  abbrev pub keys : List A → List K
  keys xs = distinct_of same (map key xs)

  part-of-key : (xs : List A) (k : K) → Contains (map key xs) k → part xs k ≢ []
  part-of-key [] k h = absurd (contains-nil k h)
  part-of-key (x ∷ xs) k h =
      go (same k (key x)) refl (part-of-key xs k) (contains-cases (key x) (map key xs) k h)
    where
      go : (t : Bool) → same k (key x) ≡ t → (Contains (map key xs) k → part xs k ≢ [])
          → (key x ≡ k) ⊎ Contains (map key xs) k → cond t (x ∷ part xs k) (part xs k) ≢ []
      go true e ih h = not-nothing x (part xs k)
      go false e ih (inl here) = absurd (true≢false (sym ((decides k (key x)).1 (sym here)) ∙ e))
      go false e ih (inr later) = ih later

  -- The part of each key of a list has an element.
  pub parts-not-empty : (xs : List A) → All (λ k. part xs k ≢ []) (keys xs)
  parts-not-empty xs =
      All-weaker (Contains (map key xs)) (λ k. part xs k ≢ []) (part-of-key xs) (keys xs)
      (all-distinct same decides (Contains (map key xs)) (map key xs)
      (All-contains_itself (map key xs)))

  -- A list with an element has a key.
  pub keys-not-empty : (xs : List A) → xs ≢ [] → keys xs ≢ []
  keys-not-empty [] h = absurd (h refl)
  keys-not-empty (x ∷ xs) h = not-nothing (key x) (filter (λ k. not (same (key x) k)) (keys xs))

  -- the key of each element is one of these
  abbrev AreKeysOf : List K → List A → Type 0
  AreKeysOf ks xs = AllByRecursion (λ x. list_any (λ k. same k (key x)) ks ≡ true) xs

  others : K → List A → List A
  others k xs = filter (λ x. not (same k (key x))) xs

  keys-of-others : (k : K) (ks : List K) (xs : List A) → AreKeysOf (k ∷ ks) xs
      → AreKeysOf ks (others k xs)
  unfolding others
  keys-of-others k ks [] h = tt
  keys-of-others k ks (x ∷ xs) h = go (same k (key x)) h.0 (keys-of-others k ks xs h.1)
    where
      go : (t : Bool) → (t || list_any (λ l. same l (key x)) ks) ≡ true → AreKeysOf ks (others k xs)
          → AreKeysOf ks (cond (not t) (x ∷ others k xs) (others k xs))
      go true e ih = ih
      go false e ih = (e, ih)

  part-of-others : (k l : K) (xs : List A) → same k l ≡ false → part (others k xs) l ≡ part xs l
  unfolding others
  part-of-others k l xs apart =
      filter-filter (λ x. not (same k (key x))) (λ x. same l (key x)) xs
      ∙ ap (λ test. filter test xs) (λ i x. at x (same l (key x)) refl i)
    where
      at : (x : A) (t : Bool) → same l (key x) ≡ t → (not (same k (key x)) && t) ≡ t
      at x true e =
          ap (λ z. not (same k z) && true) (sym ((decides l (key x)).0 e))
          ∙ ap (λ s. not s && true) apart
      at x false e = none (not (same k (key x)))
        where
          none : (s : Bool) → (s && false) ≡ false
          none true = refl
          none false = refl

  parts-of-others : (k : K) (ks : List K) (xs : List A) → AllByRecursion (λ l. same k l ≡ false) ks
      → flat_map (part (others k xs)) ks ≡ flat_map (part xs) ks
  parts-of-others k [] xs h = refl
  parts-of-others k (l ∷ ks) xs h =
      ap₂ (λ a b. a ++ b) (part-of-others k l xs h.0) (parts-of-others k ks xs h.1)

  parts-of-keys : (ks : List K) (xs : List A) → IsDistinct same ks → AreKeysOf ks xs
      → IsPermutation xs (flat_map (part xs) ks)
  unfolding others IsDistinct
  parts-of-keys [] [] d h = IsPermutation-refl []
  parts-of-keys [] (x ∷ xs) d h = absurd (false≢true h.0)
  parts-of-keys (k ∷ ks) xs d h =
      let left = parts-of-keys ks (others k xs) d.1 (keys-of-others k ks xs h) in
      IsPermutation-trans xs (part xs k ++ others k xs) (part xs k ++ flat_map (part xs) ks)
      (IsPermutation-filter_both (λ x. same k (key x)) (λ x. not (same k (key x))) (λ x. refl) xs)
      (IsPermutation-append_right (part xs k) (others k xs) (flat_map (part xs) ks)
      (subst (IsPermutation (others k xs)) (parts-of-others k ks xs d.0) left))

  -- The parts have each element just as often as the list has it.
  pub parts-permute : (xs : List A) → IsPermutation xs (flat_map (part xs) (keys xs))
  parts-permute xs =
      parts-of-keys (keys xs) xs
      (IsDistinct-from_AllPairs decides (keys xs) (distinct-apart same decides (map key xs)))
      (recursion_from_All (λ x. list_any (λ k. same k (key x)) (keys xs) ≡ true) xs
      (All-weaker (Contains xs) (λ x. list_any (λ k. same k (key x)) (keys xs) ≡ true) found xs
      (All-contains_itself xs)))
    where
      found : (x : A) → Contains xs x → list_any (λ k. same k (key x)) (keys xs) ≡ true
      found x h =
          any-contains (λ k. same k (key x)) (keys xs) (key x) ((decides (key x) (key x)).1 refl)
          (contains-distinct same decides (map key xs) (key x) (contains-map key xs x h))
