-- What is added up of bodies, of which one is recalled.
use Rattle.std.proofs.Common.{◌≡◌, ap, ℕ, zero, suc, ◌+◌, arith, List, [], ◌∷◌}
use Rattle.std.specs.Prelude.{Vec, sum_by}
use Rattle.std.specs.List.{remove}
use Rattle.std.proofs.lemmas.List.Sums.{sum_by-cons}
use Rattle.relay_queue.specs.Bodies.{bodies_view}
use Rattle.relay_store.specs.Together.{IsAt}

-- The others, and the one that is recalled, are all.
pub sum-without : {A : Type 0} (f : List ℕ → ℕ) (xs : List (Vec ℕ A)) (k : ℕ) (body : List ℕ)
    → IsAt xs k body
    → sum_by f (bodies_view xs) ≡ sum_by f (bodies_view (remove xs k)) + f body
sum-without f [] k body at = absurd (omega (arith, at.0))
sum-without f (x ∷ xs) zero body at =
    omega (arith, sum_by-cons f x.items (bodies_view xs), ap f (at.1 x))
sum-without f (x ∷ xs) (suc k) body at =
    omega (
      arith,
      sum_by-cons f x.items (bodies_view xs),
      sum_by-cons f x.items (bodies_view (remove xs k)),
      sum-without f xs k body (omega (arith, at.0), at.1),
    )
