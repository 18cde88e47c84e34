use Rattle.std.proofs.Common.{rules}
use Rattle.batch_desk.proofs.Histories.{handed_follows, is_in_hand-state}
use Rattle.batch_desk.proofs.desk.Desk.handed.Goals as goal

pub returns-clause-history : goal.returns-clause-history
returns-clause-history g c =
    handed_follows _ _ (is_in_hand-state _ c.args.number c.requires) (search rules)
