use Rattle.std.proofs.Common.{rules}
use Rattle.batch_desk.proofs.Histories.{shutdown_follows}
use Rattle.batch_desk.proofs.desk.Desk.shutdown.Goals as goal

pub returns-clause-history : goal.returns-clause-history
returns-clause-history g c = shutdown_follows _ _ (search rules)
