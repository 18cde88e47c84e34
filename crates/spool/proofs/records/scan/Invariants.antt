use Rattle.std.proofs.Common.{length}
use Rattle.spool.specs.Reading.{IsRead}
use Rattle.spool.proofs.records.scan.Given as goal

abbrev pub invariant-loop-entry : goal.invariant-loop-entry
invariant-loop-entry l = IsRead l.bytes l.left l.found

abbrev pub decreases-loop-entry : goal.decreases-loop-entry
decreases-loop-entry l = length l.left
