use Rattle.batch_service.proofs.Names.{lost_next}
use Rattle.batch_service.proofs.give.give_lost.Goals as goal

pub loop-entry-preserved : goal.loop-entry-preserved
loop-entry-preserved g c =
    lost_next _ _ _ _ _ _ _ c.in-Some.ensures.some c.take_lost.ensures c.loop-entry.invariant
