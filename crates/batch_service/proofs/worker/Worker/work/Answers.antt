use Rattle.batch_service.proofs.Works.{turns_then, works_more}
use Rattle.batch_service.proofs.worker.Worker.work.Goals as goal

pub returns-then-eq-clause-works : goal.returns-then-eq-clause-works
returns-then-eq-clause-works g c =
    works_more _ _ _ c.take_turns.ensures.works c.give_names.ensures.works

pub returns-clause-works : goal.returns-clause-works
returns-clause-works g c =
    works_more _ _ _ c.take_turns.ensures.works
    (turns_then _ _ _ _ _ _ _
    (c.judge.ensures.goes_on (g.E.Exporter.handed c.take_turns.new.self.exporter))
    c.give_names-2.ensures.works)
