use Rattle.std.proofs.Common.{◌≡◌, ◌≤◌, length, take}
use Rattle.model_body.specs.Histories.{joined}
use Rattle.relay_queue.specs.Bodies.{bodies_view}
use Rattle.relay_queue.proofs.bodies.joined_len.Given as goal

abbrev pub invariant-loop-index : goal.invariant-loop-index
invariant-loop-index g l = record {
  total : l.total ≡ length (joined (take l.index (bodies_view l.bodies.items)));
  there : l.index ≤ l.count;
}
