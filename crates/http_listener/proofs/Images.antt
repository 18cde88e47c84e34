-- Tests of the images of items.
use Rattle.std.proofs.Common.{◌≡◌, Bool, ◌||◌, List, [], ◌∷◌, refl, ap, map}
use Rattle.std.specs.List.{list_any}

-- An item of the mapped list passes the test where the image of an item does.
pub any_of_map : {X Y : Type 0} (f : X → Y) (test : Y → Bool) (xs : List X)
    → list_any (λ x. test (f x)) xs ≡ list_any test (map f xs)
any_of_map f test [] = refl
any_of_map f test (x ∷ xs) = ap (λ t. test (f x) || t) (any_of_map f test xs)
