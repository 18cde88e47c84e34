use Rattle.std.proofs.Common.{◌≤◌, take}
use Rattle.std.specs.List.{AllByRecursion}
use Rattle.model_body.specs.Desks.{body_size}
use Rattle.relay_store.proofs.keeping.are_within.Given as goal

-- the bodies so far
abbrev pub invariant-loop-body : goal.invariant-loop-body
invariant-loop-body l =
    AllByRecursion (λ body. body_size body.items ≤ l.config.memory_bytes)
    (take l.body-index l.bodies)
