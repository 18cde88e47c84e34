use Rattle.std.proofs.Common.{arith}
use Rattle.std.proofs.lemmas.Grind.{common_steps}
use Rattle.batch_desk.proofs.Histories.{popped_lost_follows}
use Rattle.batch_desk.proofs.desk.Desk.pop_lost_slip.Goals as goal

pub returns-clause-history : goal.returns-clause-history
returns-clause-history g c = popped_lost_follows _ _ (grind (arith, common_steps))
