use Rattle.std.proofs.Common.{rules}
use Rattle.relay_queue.proofs.Histories.{taken_follows}
use Rattle.relay_queue.proofs.desk.BodyDesk.take.Goals as goal

pub returns-clause-history : goal.returns-clause-history
returns-clause-history g c =
    taken_follows _ _ c.in-Some.count c.in-Some.ensures.some (search rules)
