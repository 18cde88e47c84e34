use Rattle.std.proofs.Common.{arith, rules}
use Rattle.std.proofs.lemmas.Grind.{common_steps}
use Rattle.batch_desk.proofs.Histories.{full_follows, late_follows, queued_follows}
use Rattle.batch_desk.proofs.desk.Desk.offer.Goals as goal

pub returns-then-self-clause-history : goal.returns-then-self-clause-history
returns-then-self-clause-history g c = late_follows _ _ (search rules) (grind (arith, common_steps))

pub returns-in-Ok-clause-history : goal.returns-in-Ok-clause-history
returns-in-Ok-clause-history g c =
    queued_follows _ _ _ (search rules) (grind (arith, common_steps)) (search rules)
    (grind (arith, common_steps))

pub returns-in-Err-clause-history : goal.returns-in-Err-clause-history
returns-in-Err-clause-history g c =
    full_follows _ _ _ (search rules) (grind (arith, common_steps)) (search rules)
    (grind (arith, common_steps))
