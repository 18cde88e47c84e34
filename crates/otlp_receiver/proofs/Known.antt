-- Texts that are known, as lists of bytes.
use Rattle.std.proofs.Common.{◌≡◌, Bool, ◌||◌, List, [], ◌∷◌, ◌++◌, refl, ap, map}
use Rattle.std.specs.Prelude.{flat_map}
use Rattle.std.specs.List.{list_any}

-- A test of the image of any item is a test of any item of the mapped list.
pub any_of_images : {X Y : Type 0} (f : X → Y) (test : Y → Bool) (xs : List X)
    → list_any (λ x. test (f x)) xs ≡ list_any test (map f xs)
any_of_images f test [] = refl
any_of_images f test (x ∷ xs) = ap (λ t. test (f x) || t) (any_of_images f test xs)

-- Lists made of the image of each item are lists made of each item of the mapped list.
pub all_of_images : {X Y Z : Type 0} (f : X → Y) (g : Y → List Z) (xs : List X)
    → flat_map (λ x. g (f x)) xs ≡ flat_map g (map f xs)
all_of_images f g [] = refl
all_of_images f g (x ∷ xs) = ap (λ l. g (f x) ++ l) (all_of_images f g xs)
