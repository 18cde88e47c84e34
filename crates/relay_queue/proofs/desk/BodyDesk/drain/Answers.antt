use Rattle.std.proofs.Common.{rules}
use Rattle.relay_queue.proofs.Histories.{drained_follows}
use Rattle.relay_queue.proofs.desk.BodyDesk.drain.Goals as goal

pub returns-clause-history : goal.returns-clause-history
returns-clause-history g c = drained_follows _ _ (search rules)
