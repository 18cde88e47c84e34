-- Fields that are lent.
use Rattle.std.proofs.Common.{◌≡◌, refl, ap, ℕ, List, [], ◌∷◌, ◌&&◌}
use Rattle.std.specs.Borrow.{Bor}
use Rattle.std.specs.List.{list_all}
use Rattle.http_client.specs.Refusals.{is_field}
use Rattle.http_client.specs.Requests.{lent_fields}

-- Whether each field that is lent is one that a request may have is whether each field is.
pub all_viewed : (fields : List (Bor (List ℕ) × Bor (List ℕ)))
    → list_all (λ f. is_field (f.0.now, f.1.now)) fields ≡ list_all is_field (lent_fields fields)
all_viewed [] = refl
all_viewed (f ∷ fields) = ap (λ b. is_field (f.0.now, f.1.now) && b) (all_viewed fields)
