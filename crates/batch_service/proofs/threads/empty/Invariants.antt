use Rattle.std.proofs.Common.{◌≡◌, ◌≤◌, ◌++◌, length}
use Rattle.std.specs.Prelude.{vec_capacity, vec_len}
use Rattle.batch_service.proofs.threads.empty.Given as goal

-- there is room for what is left of the lanes
abbrev pub invariant-loop-lane : goal.invariant-loop-lane
invariant-loop-lane g l =
    (l.yielded ++ l.lane-iterator.rest.items ≡ l.fn.lanes.items) ×
    (vec_len l.passes ≡ length l.yielded) ×
    (vec_len l.outputs ≡ length l.yielded) ×
    (vec_len l.fn.lanes ≤ vec_capacity l.passes) ×
    (vec_len l.fn.lanes ≤ vec_capacity l.outputs)
