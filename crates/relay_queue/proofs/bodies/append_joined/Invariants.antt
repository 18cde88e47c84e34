use Rattle.std.proofs.Common.{◌≡◌, ◌≤◌, ◌+◌, ◌++◌, length, take, vec_capacity, vec_len}
use Rattle.model_body.specs.Histories.{joined}
use Rattle.relay_queue.specs.Bodies.{bodies_view}
use Rattle.relay_queue.proofs.bodies.append_joined.Given as goal

abbrev pub invariant-loop-index : goal.invariant-loop-index
invariant-loop-index g l = record {
  items : l.out.items
      ≡ l.fn.out.items ++ joined (take l.index (bodies_view l.bodies.items));
  len : vec_len l.out
      ≡ vec_len l.fn.out + length (joined (take l.index (bodies_view l.bodies.items)));
  capacity : vec_capacity l.fn.out ≤ vec_capacity l.out;
  there : l.index ≤ l.count;
}
