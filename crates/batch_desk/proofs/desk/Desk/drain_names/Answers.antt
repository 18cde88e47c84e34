use Rattle.std.proofs.Common.{arith}
use Rattle.std.proofs.lemmas.Grind.{common_steps}
use Rattle.batch_desk.proofs.Histories.{drained_follows}
use Rattle.batch_desk.proofs.desk.Desk.drain_names.Goals as goal

pub returns-clause-history : goal.returns-clause-history
returns-clause-history g c = drained_follows _ _ (grind (arith, common_steps))
