use Rattle.std.proofs.Common.{subst, sym, ap, ◌∙◌}
use Rattle.model_desk.specs.Desks.{SettlesSpans}
use Rattle.model_desk.specs.Queue.{lost_names}
use Rattle.batch_desk.proofs.desk.Desk.settle.Goals as goal

pub returns-clause-history : goal.returns-clause-history
returns-clause-history g c =
    subst (λ f. SettlesSpans f c.args.batch.spans c.args.self.now c.settle_named.new.self)
    (ap (λ b. b.fate) c.into_settled.ensures)
    (c.settle_named.ensures.history c.args.batch.spans
    (ap (λ b. lost_names b.fate c.args.batch.spans) c.into_settled.ensures
    ∙ sym (ap (λ b. b.entries) c.into_settled.ensures)))
