-- Laws of lists that several crates cite.
use Rattle.std.proofs.Common.{◌≡◌, refl, ap, ◌∙◌, List, [], ◌∷◌, ◌++◌, filter, cond, Bool, true}
use Rattle.std.proofs.Common.{false, not, ◌||◌}
use Rattle.std.specs.List.{AllByRecursion, list_any}
use Rattle.std.proofs.lemmas.List.{append-nil}
use Rattle.std.proofs.lemmas.List.Elements.{filter-append}
use Rattle.model_span.specs.Attributes.{distinct_of, last_or}

-- One more at the end is distinct from all before, or changes nothing.
pub distinct-more : {A : Type 0} (same : A → A → Bool) (xs : List A) (y : A)
    → distinct_of same (xs ++ y ∷ [])
    ≡ cond (list_any (λ x. same x y) xs) (distinct_of same xs) (distinct_of same xs ++ y ∷ [])
distinct-more same [] y = refl
distinct-more {A = A} same (x ∷ xs) y =
    go (same x y) refl (list_any (λ z. same z y) xs) (distinct-more same xs y)
  where
    keep : A → Bool
    keep z = not (same x z)

    go : (t : Bool) → same x y ≡ t → (u : Bool)
        → distinct_of same (xs ++ y ∷ [])
        ≡ cond u (distinct_of same xs) (distinct_of same xs ++ y ∷ []) →
        x ∷ filter keep (distinct_of same (xs ++ y ∷ []))
        ≡ cond (t || u) (x ∷ filter keep (distinct_of same xs))
        ((x ∷ filter keep (distinct_of same xs)) ++ y ∷ [])
    go true e true h = ap (λ l. x ∷ filter keep l) h
    go true e false h =
        ap (λ l. x ∷ filter keep l) h
        ∙ ap (λ l. x ∷ l)
        (filter-append keep (distinct_of same xs) (y ∷ []) ∙ (rw e (append-nil _)))
    go false e true h = ap (λ l. x ∷ filter keep l) h
    go false e false h =
        ap (λ l. x ∷ filter keep l) h
        ∙ ap (λ l. x ∷ l) (filter-append keep (distinct_of same xs) (y ∷ []) ∙ (rw e refl))

-- The last of a list with one more element at the end is that element.
pub last-more : {A : Type 0} (d : A) (xs : List A) (y : A) → last_or d (xs ++ y ∷ []) ≡ y
last-more d [] y = refl
last-more d (x ∷ xs) y = last-more x xs y

-- What holds of each element of a list holds of each one that a filter keeps.
pub filter-keeps : {A : Type 0} (P : A → Type 0) (test : A → Bool) (xs : List A)
    → AllByRecursion P xs → AllByRecursion P (filter test xs)
filter-keeps P test [] h = tt
filter-keeps P test (x ∷ xs) h = go (test x) (filter-keeps P test xs h.1)
  where
    go : (t : Bool) → AllByRecursion P (filter test xs)
        → AllByRecursion P (cond t (x ∷ filter test xs) (filter test xs))
    go true k = (h.0, k)
    go false k = k

-- What holds of all holds of the distinct ones.
pub distinct-all : {A : Type 0} (P : A → Type 0) (same : A → A → Bool) (xs : List A)
    → AllByRecursion P xs → AllByRecursion P (distinct_of same xs)
distinct-all P same [] h = tt
distinct-all P same (x ∷ xs) h =
    (h.0, filter-keeps P (λ y. not (same x y)) (distinct_of same xs) (distinct-all P same xs h.1))
