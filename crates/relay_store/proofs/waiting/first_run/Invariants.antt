use Rattle.std.proofs.Common.{◌≡◌, ◌++◌}
use Rattle.std.specs.Vec.Iter.{into_iter_items}
use Rattle.std.specs.List.{enumerate_from}
use Rattle.relay_queue.specs.Bodies.{bodies_view}
use Rattle.spool.specs.Settled.{waiting_view}
use Rattle.relay_store.proofs.waiting.first_run.Given as goal

-- the bodies so far have the numbers from the first one's on
abbrev pub invariant-loop-body : goal.invariant-loop-body
invariant-loop-body l = record {
  all : l.fn.found.items ≡ l.yielded ++ into_iter_items l.body-iterator;
  run : waiting_view l.yielded ≡ enumerate_from l.first (bodies_view l.bodies.items);
}
