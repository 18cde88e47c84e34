use Rattle.std.proofs.Common.{◌≡◌, ◌≤◌, ◌+◌, deque_len, length, take}
use Rattle.model_body.specs.Histories.{joined}
use Rattle.relay_queue.specs.Bodies.{bodies_view}
use Rattle.relay_queue.proofs.bodies.whole_count.Given as goal

-- what is left of the limit after the bodies so far
abbrev pub invariant-loop-index : goal.invariant-loop-index
invariant-loop-index g l = record {
  used : length (joined (take l.index (bodies_view l.bodies.items))) + l.room ≡ l.limit;
  there : l.index ≤ deque_len l.bodies;
}
