use Rattle.std.proofs.Common.{◌≡◌}
use Rattle.batch_processor.proofs.lock.hold.Waits.for_flush.Given as goal

abbrev pub invariant-loop : goal.invariant-loop
invariant-loop g l = l.account ≡ l.initial.account
