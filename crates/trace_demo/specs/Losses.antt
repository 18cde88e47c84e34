-- Lost spans by name.
use Rattle.std.specs.Prelude.{ℕ, List, map}
use Rattle.std.specs.List.Sorted.{IsPermutation}
use Rattle.trace_demo.specs.declared.soak.losses.Loss.{Loss}

abbrev pub numbers_of : List Loss → List ℕ
numbers_of losses = map (λ loss. loss.number) losses

-- The spans that are named as lost are just those that have to be, each as often and with the same
-- reason: in some order they are the same. (profile)
pub record AreNamed (named wanted : List Loss) : Type 0 where
  pub sorted : List Loss
  pub named_are : IsPermutation named sorted
  pub wanted_are : IsPermutation wanted sorted
