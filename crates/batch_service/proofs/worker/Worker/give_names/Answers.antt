use Rattle.batch_service.proofs.Works.{gives_only}
use Rattle.batch_service.proofs.worker.Worker.give_names.Goals as goal

pub returns-clause-works : goal.returns-clause-works
returns-clause-works g c =
    gives_only _ _ _ _ _ _ _ _ c.drain_names-names.ensures c.give_names.ensures
