use Rattle.std.proofs.Common.{◌≡◌, ◌++◌, ◌+◌, length}
use Rattle.std.specs.Vec.Iter.{into_iter_items}
use Rattle.relay_queue.specs.Bodies.{bodies_view}
use Rattle.relay_store.specs.Kept.{HasHistory}
use Rattle.relay_store.proofs.waiting.admit_all.Given as goal

-- the bodies so far are admitted, and the others are to come
abbrev pub invariant-loop-body : goal.invariant-loop-body
invariant-loop-body l = record {
  all : l.fn.bodies.items ≡ l.yielded ++ into_iter_items l.body-iterator;
  desk : l.desk ≡ record l.fn.desk {
    kept = l.fn.desk.kept ++ bodies_view l.yielded;
    admitted = l.fn.desk.admitted + length l.yielded;
  };
  history : HasHistory l.fn.desk → HasHistory l.desk;
}
