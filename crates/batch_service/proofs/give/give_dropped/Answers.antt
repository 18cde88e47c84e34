use Rattle.batch_service.proofs.Names.{dropped_next}
use Rattle.batch_service.proofs.give.give_dropped.Goals as goal

pub loop-entry-preserved : goal.loop-entry-preserved
loop-entry-preserved g c =
    dropped_next _ _ _ _ _ _ _ c.in-Some.ensures.some c.take_dropped.ensures c.loop-entry.invariant
