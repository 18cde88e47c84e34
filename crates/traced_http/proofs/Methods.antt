-- Lists of methods.
use Rattle.std.proofs.Common.{◌≡◌, refl, ℕ, List, [], ◌∷◌, length, Vec}
use Rattle.traced_http.specs.Methods.{chosen_methods, lent_methods, standard_methods}

-- Where no method is listed, the standard ones are chosen.
pub no_method : {A : Type 0} (list : List (Vec ℕ A)) → length list ≡ 0
    → standard_methods ≡ chosen_methods (lent_methods list)
no_method [] none = refl
no_method (m ∷ list) none = cc

-- Where some are listed, they are chosen.
pub some_methods : {A : Type 0} (list : List (Vec ℕ A)) → (length list ≡ 0 → ⊥)
    → lent_methods list ≡ chosen_methods (lent_methods list)
some_methods [] some = absurd (some refl)
some_methods (m ∷ list) some = refl
