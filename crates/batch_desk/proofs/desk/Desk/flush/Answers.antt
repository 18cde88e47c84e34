use Rattle.std.proofs.Common.{rules}
use Rattle.batch_desk.proofs.Histories.{flush_follows}
use Rattle.batch_desk.proofs.desk.Desk.flush.Goals as goal

pub returns-clause-history : goal.returns-clause-history
returns-clause-history g c = flush_follows _ _ (search rules)
