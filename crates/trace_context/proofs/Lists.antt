-- Lists that are made of one item after the other.
use Rattle.std.proofs.Common.{◌≡◌, ℕ, ◌+◌, ◌<◌, List, [], ◌∷◌, ◌++◌, length, map, take, get_or}
use Rattle.std.proofs.Common.{flat_map, ap, ◌∙◌, Bor}
use Rattle.std.proofs.lemmas.List.{append-nil, map-append, take_more}
use Rattle.std.proofs.lemmas.Grind.{flat_map-append}

-- what references lend
abbrev pub nows : List (Bor (List ℕ)) → List (List ℕ)
nows xs = map (λ x. x.now) xs

-- The list made of one more item is the list so far and what is made of this item.
pub flat_more : {X Y : Type 0} (f : X → List Y) (xs : List X) (i : ℕ) (d : X) → i < length xs
    → flat_map f (take (i + 1) xs) ≡ flat_map f (take i xs) ++ f (get_or xs i d)
flat_more f xs i d inside =
    ap (flat_map f) (take_more xs i d inside)
    ∙ flat_map-append f (take i xs) (get_or xs i d ∷ [])
    ∙ ap (λ last. flat_map f (take i xs) ++ last) (append-nil (f (get_or xs i d)))

-- The list made of one more lent item is the list so far and what is made of this item.
pub nows_more : {Y : Type 0} (f : List ℕ → List Y) (xs : List (Bor (List ℕ))) (i : ℕ)
    (d : Bor (List ℕ))
    → i < length xs
    → flat_map f (nows (take (i + 1) xs)) ≡ flat_map f (nows (take i xs)) ++ f (get_or xs i d).now
nows_more f xs i d inside =
    ap (λ items. flat_map f (nows items)) (take_more xs i d inside)
    ∙ ap (flat_map f) (map-append (λ (x : Bor (List ℕ)). x.now) (take i xs) (get_or xs i d ∷ []))
    ∙ flat_map-append f (nows (take i xs)) ((get_or xs i d).now ∷ [])
    ∙ ap (λ last. flat_map f (nows (take i xs)) ++ last) (append-nil (f (get_or xs i d).now))
