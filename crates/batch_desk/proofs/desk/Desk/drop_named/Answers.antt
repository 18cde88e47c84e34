use Rattle.std.proofs.Common.{ap, arith, sym, ◌∙◌}
use Rattle.std.proofs.lemmas.Grind.{common_steps}
use Rattle.model_span.specs.Dropped.{can_drop_batch}
use Rattle.model_desk.specs.Desks.{is_in_hand}
use Rattle.batch_desk.proofs.Histories.{named_follows}
use Rattle.batch_desk.proofs.desk.Desk.drop_named.Goals as goal

pub returns-clause-history : goal.returns-clause-history
returns-clause-history g c spans same =
    named_follows _ _ _ _ spans (ap is_in_hand c.requires.out)
    (ap (λ b. can_drop_batch b.reason) (sym c.batch.view_is) ∙ c.batch.invariant.1) same
    (grind (arith, common_steps))
