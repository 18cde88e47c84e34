use Rattle.batch_service.proofs.Works.{works_none}
use Rattle.batch_service.proofs.worker.Worker.turn_at.Goals as goal

pub returns-then-is_time_up-clause-works : goal.returns-then-is_time_up-clause-works
returns-then-is_time_up-clause-works g c = works_none _
