use Rattle.std.proofs.Common.{◌≡◌, length}
use Rattle.span_ring.proofs.run.Run.clear.Given as goal

abbrev pub invariant-loop-item : goal.invariant-loop-item
invariant-loop-item g l = record { room : l.self.room ≡ l.fn.self.room }

abbrev pub decreases-loop-item : goal.decreases-loop-item
decreases-loop-item g l = length l.self.items
