use Rattle.std.specs.Prelude.{length}
use Rattle.batch_service.specs.Working.{lost_names}
use Rattle.batch_service.proofs.Names.{GivesFront}
use Rattle.batch_service.proofs.give.give_lost.Given as goal

-- what was given so far
abbrev pub invariant-loop-entry : goal.invariant-loop-entry
invariant-loop-entry g l =
    GivesFront lost_names l.initial.left l.left (g.S.NameSink.named l.initial.sink)
    (g.S.NameSink.named l.sink)

abbrev pub decreases-loop-entry : goal.decreases-loop-entry
decreases-loop-entry g l = length l.left
