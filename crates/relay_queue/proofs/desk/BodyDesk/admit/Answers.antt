use Rattle.std.proofs.Common.{rules}
use Rattle.relay_queue.proofs.Histories.{admitted_follows}
use Rattle.relay_queue.proofs.desk.BodyDesk.admit.Goals as goal

pub returns-clause-history : goal.returns-clause-history
returns-clause-history g c =
    admitted_follows _ _ c.args.body.items (search rules) (search rules)
