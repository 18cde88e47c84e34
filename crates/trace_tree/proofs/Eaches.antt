-- What holds of each element of a list, and of each and any later one.
use Rattle.std.proofs.Common.{◌≡◌, sym, subst, ℕ, suc, ◌<◌, inl, inr, Bool, true, List, [], ◌∷◌}
use Rattle.std.proofs.Common.{◌++◌, length, map, arith, filter, AllPairs}
use Rattle.std.specs.List.{AllByRecursion as Each}
use Rattle.std.proofs.lemmas.Bool.{cases_Bool, cond-true, cond-false}
use Rattle.std.proofs.lemmas.List.Elements.{All-from_recursion, recursion_from_All}
use Rattle.std.proofs.lemmas.List.Kept.{AllPairs-cons}

-- What holds of each item of two lists holds of each item of the joined list.
pub Each-append : {X : Type 0} (P : X → Type 0) (xs ys : List X) → Each P xs → Each P ys
    → Each P (xs ++ ys)
Each-append P [] ys h g = g
Each-append P (x ∷ xs) ys h g = (h.0, Each-append P xs ys h.1 g)

-- What holds of each item of a joined list holds of each item of its first part.
pub Each-front : {X : Type 0} (P : X → Type 0) (xs ys : List X) → Each P (xs ++ ys) → Each P xs
Each-front P [] ys h = tt
Each-front P (x ∷ xs) ys h = (h.0, Each-front P xs ys h.1)

-- What holds of each item of a joined list holds of each item of its second part.
pub Each-back : {X : Type 0} (P : X → Type 0) (xs ys : List X) → Each P (xs ++ ys) → Each P ys
Each-back P [] ys h = h
Each-back P (x ∷ xs) ys h = Each-back P xs ys h.1

-- What holds of each item of a list carries over to whatever follows from it.
pub Each-weaker : {X : Type 0} (P Q : X → Type 0) → ((x : X) → P x → Q x) → (xs : List X)
    → Each P xs → Each Q xs
Each-weaker P Q f [] h = tt
Each-weaker P Q f (x ∷ xs) h = (f x h.0, Each-weaker P Q f xs h.1)

-- What holds of any item holds of each item of a list.
pub Each-always : {X : Type 0} (P : X → Type 0) → ((x : X) → P x) → (xs : List X) → Each P xs
Each-always P f [] = tt
Each-always P f (x ∷ xs) = (f x, Each-always P f xs)

-- What holds of the image of each item holds of each item of the mapped list.
pub Each-map : {X Y : Type 0} (P : Y → Type 0) (f : X → Y) (xs : List X) → Each (λ x. P (f x)) xs
    → Each P (map f xs)
Each-map P f [] h = tt
Each-map P f (x ∷ xs) h = (h.0, Each-map P f xs h.1)

-- What holds of each item of a mapped list holds of the image of each item.
pub Each-unmap : {X Y : Type 0} (P : Y → Type 0) (f : X → Y) (xs : List X) → Each P (map f xs)
    → Each (λ x. P (f x)) xs
Each-unmap P f [] h = tt
Each-unmap P f (x ∷ xs) h = (h.0, Each-unmap P f xs h.1)

-- What holds of each item of a list holds of each item of it that passes a test.
pub Each-filter : {X : Type 0} (P : X → Type 0) (p : X → Bool) (xs : List X) → Each P xs
    → Each P (filter p xs)
Each-filter P p [] h = tt
Each-filter P p (x ∷ xs) h =
    let more = Each-filter P p xs h.1 in
    elim (cases_Bool (p x)) [
      | inl pass ↦
          subst (Each P) (sym (cond-true (p x) (x ∷ filter p xs) (filter p xs) pass)) (h.0, more)
      | inr miss ↦ subst (Each P) (sym (cond-false (p x) (x ∷ filter p xs) (filter p xs) miss)) more
    ]

-- Each item that a filter leaves passes its test.
pub Each-passes : {X : Type 0} (P : X → Type 0) (p : X → Bool) → ((x : X) → p x ≡ true → P x)
    → (xs : List X) → Each P (filter p xs)
Each-passes P p f [] = tt
Each-passes P p f (x ∷ xs) =
    let more = Each-passes P p f xs in
    elim (cases_Bool (p x)) [
      | inl pass ↦
          subst (Each P) (sym (cond-true (p x) (x ∷ filter p xs) (filter p xs) pass))
          (f x pass, more)
      | inr miss ↦ subst (Each P) (sym (cond-false (p x) (x ∷ filter p xs) (filter p xs) miss)) more
    ]

-- R of each element and each later one
abbrev pub Pairs : {X : Type 0} → (X → X → Type 0) → List X → Type 0
Pairs R [] = Unit {0}
Pairs R (x ∷ xs) = Each (R x) xs × Pairs R xs

-- Pairs of items of a joined list are related where those of each part and those across are.
pub Pairs-append : {X : Type 0} (R : X → X → Type 0) (xs ys : List X) → Pairs R xs → Pairs R ys
    → Each (λ x. Each (R x) ys) xs → Pairs R (xs ++ ys)
Pairs-append R [] ys h g c = g
Pairs-append R (x ∷ xs) ys h g c = (Each-append (R x) xs ys h.0 c.0, Pairs-append R xs ys h.1 g c.1)

-- Pairs of items of a joined list are related in its second part, too.
pub Pairs-back : {X : Type 0} (R : X → X → Type 0) (xs ys : List X) → Pairs R (xs ++ ys)
    → Pairs R ys
Pairs-back R [] ys h = h
Pairs-back R (x ∷ xs) ys h = Pairs-back R xs ys h.1

-- Items may be put between two parts of a list where they are related to the items of both.
pub Pairs-between : {X : Type 0} (R : X → X → Type 0) (xs cs ys : List X) → Pairs R (xs ++ ys)
    → Pairs R cs
    → Each (λ x. Each (R x) cs) xs → Each (λ c. Each (R c) ys) cs → Pairs R (xs ++ (cs ++ ys))
Pairs-between R [] cs ys h g before after = Pairs-append R cs ys g h after
Pairs-between R (x ∷ xs) cs ys h g before after = (
  Each-append (R x) xs (cs ++ ys) (Each-front (R x) xs ys h.0)
      (Each-append (R x) cs ys before.0 (Each-back (R x) xs ys h.0)),
  Pairs-between R xs cs ys h.1 g before.1 after,
)

-- Pairs of items whose images are related are related in the mapped list.
pub Pairs-map : {X Y : Type 0} (R : Y → Y → Type 0) (f : X → Y) (xs : List X)
    → Pairs (λ x y. R (f x) (f y)) xs → Pairs R (map f xs)
Pairs-map R f [] h = tt
Pairs-map R f (x ∷ xs) h = (Each-map (R (f x)) f xs h.0, Pairs-map R f xs h.1)

-- A relation of the pairs of a list carries over to whatever follows from it.
pub Pairs-weaker : {X : Type 0} (R S : X → X → Type 0) → ((x y : X) → R x y → S x y) → (xs : List X)
    → Pairs R xs → Pairs S xs
Pairs-weaker R S f [] h = tt
Pairs-weaker R S f (x ∷ xs) h = (Each-weaker (R x) (S x) (f x) xs h.0, Pairs-weaker R S f xs h.1)

-- A relation of any two items is one of the pairs of a list.
pub Pairs-always : {X : Type 0} (R : X → X → Type 0) → ((x y : X) → R x y) → (xs : List X)
    → Pairs R xs
Pairs-always R f [] = tt
Pairs-always R f (x ∷ xs) = (Each-always (R x) (f x) xs, Pairs-always R f xs)

-- Pairs of items of a list stay related among those that pass a test.
pub Pairs-filter : {X : Type 0} (R : X → X → Type 0) (p : X → Bool) (xs : List X) → Pairs R xs
    → Pairs R (filter p xs)
Pairs-filter R p [] h = tt
Pairs-filter R p (x ∷ xs) h =
    let more = Pairs-filter R p xs h.1 in
    elim (cases_Bool (p x)) [
      | inl pass ↦
          subst (Pairs R) (sym (cond-true (p x) (x ∷ filter p xs) (filter p xs) pass))
          (Each-filter (R x) p xs h.0, more)
      | inr miss ↦
          subst (Pairs R) (sym (cond-false (p x) (x ∷ filter p xs) (filter p xs) miss)) more
    ]

-- Related pairs in the sense of `AllPairs` are related in the sense of `Pairs`.
pub Pairs-from_All : {X : Type 0} (R : X → X → Type 0) (xs : List X) → AllPairs R xs → Pairs R xs
Pairs-from_All R [] h = tt
Pairs-from_All R (x ∷ xs) h = (
  recursion_from_All (R x) xs (λ k d within. h 0 (suc k) d (first k) (next k (length xs) within)),
  Pairs-from_All R xs
      (λ i j d less within. h (suc i) (suc j) d (next i j less) (next j (length xs) within)),
)
  where
    first : (k : ℕ) → 0 < suc k
    first k = omega arith

    next : (i j : ℕ) → i < j → suc i < suc j
    next i j h = omega arith

-- Related pairs in the sense of `Pairs` are related in the sense of `AllPairs`.
pub All-from_Pairs : {X : Type 0} (R : X → X → Type 0) (xs : List X) → Pairs R xs → AllPairs R xs
All-from_Pairs R [] h = λ i j d less within. absurd (none j within)
  where
    none : (j : ℕ) → j < 0 → ⊥
    none j h = omega arith
All-from_Pairs R (x ∷ xs) h =
    AllPairs-cons R x xs (All-from_recursion (R x) xs h.0) (All-from_Pairs R xs h.1)
