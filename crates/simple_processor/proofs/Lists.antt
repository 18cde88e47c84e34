-- The images of the elements of two lists, with more of them.
use Rattle.std.proofs.Common.{◌≡◌, List, ◌++◌, sym, ap, ◌∙◌, subst}
use Rattle.std.specs.Prelude.{IsPermutation, map}
use Rattle.std.proofs.lemmas.List.{map-append}
use Rattle.std.proofs.lemmas.List.Sorted.{IsPermutation-trans, IsPermutation-map}
use Rattle.std.proofs.lemmas.List.Sorted.{IsPermutation-append_left}

-- Two lists that have the same images in some order still do with more such elements.
pub images_more : {X Y Z : Type 0} (f : X → Z) (g : Y → Z) (xs xs' more : List X) (ys new : List Y)
    → IsPermutation xs' (xs ++ more) → IsPermutation (map f xs) (map g ys) → map f more ≡ map g new
    → IsPermutation (map f xs') (map g (ys ++ new))
images_more {X} {Y} {Z} f g xs xs' more ys new grown same equal =
    let first : IsPermutation (map f xs') (map f xs ++ map f more) =
    subst (λ (zs : List Z). IsPermutation (map f xs') zs) (map-append f xs more)
    (IsPermutation-map f xs' (xs ++ more) grown) in
    let second : IsPermutation (map f xs ++ map f more) (map g ys ++ map f more) =
    IsPermutation-append_left (map f more) (map f xs) (map g ys) same in
    let both =
    IsPermutation-trans (map f xs') (map f xs ++ map f more)
    (map g ys ++ map f more) first second in
    subst (λ (zs : List Z). IsPermutation (map f xs') zs)
    (ap (λ (zs : List Z). map g ys ++ zs) equal ∙ sym (map-append g ys new)) both
