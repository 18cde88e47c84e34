use Rattle.std.proofs.Common.{◌≡◌, ◌≤◌, true, length}
use Rattle.std.specs.Prelude.{None}
use Rattle.batch_service.proofs.GivenUp.{AbandonsSome}
use Rattle.batch_service.proofs.rest.abandon_waiting.Given as goal

-- the queue is shut, and of its spans some are abandoned
abbrev pub invariant-loop-batch : goal.invariant-loop-batch
invariant-loop-batch l =
    AbandonsSome l.fn.desk l.desk × (l.desk.closed ≡ true) × (l.desk.out ≡ None)
    × (1 ≤ l.desk.config.batch)

abbrev pub decreases-loop-batch : goal.decreases-loop-batch
decreases-loop-batch l = length l.desk.waiting
