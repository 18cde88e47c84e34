-- Lists through one index more.
use Rattle.std.proofs.Common.{◌≡◌, ◌≢◌, arith, refl, ℕ, zero, suc, ◌<◌, ◌+◌, List, [], ◌∷◌, ◌++◌}
use Rattle.std.proofs.Common.{map, flat_map, take, get_or, length, sym, ap, ◌∙◌, append_assoc}
use Rattle.std.proofs.Common.{Result, Ok, Err, OnErr}
use Rattle.std.proofs.lemmas.List.{map-append, take_more, append-nil}
use Rattle.std.proofs.lemmas.List.Concat.{flat_map-append}

through-index : {X : Type 0} (xs : List X) (i : ℕ) (x : X) → i < length xs → x ≡ get_or xs i x
    → take (i + 1) xs ≡ take i xs ++ x ∷ []
through-index xs i x l e = take_more xs i x l ∙ ap (λ y. take i xs ++ y ∷ []) (sym e)

-- Where what is made of the items before an index was appended, one more makes it those through the
-- index.
pub map-more : {X Y Z : Type 0} (f : Y → Z) (g : X → Y) (xs : List X) (i : ℕ) (x : X)
    → i < length xs → x ≡ get_or xs i x → (old mid new : List Z) →
    mid ≡ old ++ map f (map g (take i xs)) → new ≡ mid ++ f (g x) ∷ []
    → new ≡ old ++ map f (map g (take (i + 1) xs))
map-more f g xs i x l e old mid new p q =
    q ∙ ap (λ zs. zs ++ f (g x) ∷ []) p
    ∙ append_assoc old (map f (map g (take i xs))) (f (g x) ∷ [])
    ∙ ap (λ zs. old ++ zs)
    (sym (ap (λ ys. map f (map g ys)) (through-index xs i x l e)
    ∙ ap (map f) (map-append g (take i xs) (x ∷ [])) ∙ map-append f (map g (take i xs)) (g x ∷ [])))

-- Where lists made of the items before an index were appended, one more makes it those through the
-- index.
pub flat_map-more : {X Y Z : Type 0} (f : Y → List Z) (g : X → Y) (xs : List X) (i : ℕ) (x : X)
    → i < length xs → x ≡ get_or xs i x → (old mid new : List Z) →
    mid ≡ old ++ flat_map f (map g (take i xs)) → new ≡ mid ++ f (g x)
    → new ≡ old ++ flat_map f (map g (take (i + 1) xs))
flat_map-more f g xs i x l e old mid new p q =
    q ∙ ap (λ zs. zs ++ f (g x)) p ∙ append_assoc old (flat_map f (map g (take i xs))) (f (g x))
    ∙ ap (λ zs. old ++ zs)
    (sym (ap (λ ys. flat_map f (map g ys)) (through-index xs i x l e)
    ∙ ap (flat_map f) (map-append g (take i xs) (x ∷ []))
    ∙ flat_map-append f (map g (take i xs)) (g x ∷ [])
    ∙ ap (λ ys. flat_map f (map g (take i xs)) ++ ys) (append-nil (f (g x)))))

-- A list with one more item at the end, mapped, is the old list mapped, with the item's image at
-- the end.
pub map-pushed : {X Y : Type 0} (f : X → Y) (xs new : List X) (x : X) → new ≡ xs ++ x ∷ []
    → map f new ≡ map f xs ++ f x ∷ []
map-pushed f xs new x e = ap (map f) e ∙ map-append f xs (x ∷ [])

-- ---- where there is an item, something comes of it

-- What holds anyway holds where there is an error.
pub on-err-always : {T E P : Type 0} (r : Result T E) → P → OnErr r P
on-err-always (Ok x) p = tt
on-err-always (Err e) p = p

append-none : {Z : Type 0} (a b : List Z) → a ++ b ≡ [] → (a ≡ []) × (b ≡ [])
append-none [] b e = (refl, e)
append-none (z ∷ a) b e = absurd (omega (arith, ap length e))

-- A list that has an item is not empty when it is mapped.
pub some-mapped : {X Y Z : Type 0} (f : Y → Z) (g : X → Y) (xs : List X) (i : ℕ) → i < length xs
    → map f (map g xs) ≢ []
some-mapped f g [] i l n = absurd (omega (arith, l))
some-mapped f g (x ∷ xs) i l n = absurd (omega (arith, ap length n))

-- Where an item of a list makes something, what the list makes is not empty.
pub some-part : {X Y Z : Type 0} (f : Y → List Z) (g : X → Y) (xs : List X) (i : ℕ) (x : X)
    → i < length xs → x ≡ get_or xs i x → f (g x) ≢ [] → flat_map f (map g xs) ≢ []
some-part f g [] i x l e h n = absurd (omega (arith, l))
some-part f g (y ∷ xs) zero x l e h n =
    h (ap (λ z. f (g z)) e ∙ (append-none (f (g y)) (flat_map f (map g xs)) n).0)
some-part f g (y ∷ xs) (suc i) x l e h n =
    some-part f g xs i x (omega (arith, l)) e h
    ((append-none (f (g y)) (flat_map f (map g xs)) n).1)
