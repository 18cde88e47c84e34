use Rattle.batch_service.proofs.Works.{works_more, works_none}
use Rattle.batch_service.proofs.worker.Worker.take_turns.Goals as goal

pub loop-turn-init : goal.loop-turn-init
loop-turn-init g c = (c.requires, works_none _)

pub loop-turn-preserved : goal.loop-turn-preserved
loop-turn-preserved g c =
    (c.turn_at.ensures.prepared, works_more _ _ _ c.loop-turn.invariant.1 c.turn_at.ensures.works)

pub returns-in-Some-clause-works : goal.returns-in-Some-clause-works
returns-in-Some-clause-works g c =
    works_more _ _ _ c.loop-turn.invariant.1 c.turn_at.ensures.works
