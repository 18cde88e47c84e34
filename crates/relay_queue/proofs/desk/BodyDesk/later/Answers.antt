use Rattle.std.proofs.Common.{rules}
use Rattle.relay_queue.proofs.Histories.{later_follows}
use Rattle.relay_queue.proofs.desk.BodyDesk.later.Goals as goal

pub returns-clause-history : goal.returns-clause-history
returns-clause-history g c = later_follows _ _ c.requires (search rules)
