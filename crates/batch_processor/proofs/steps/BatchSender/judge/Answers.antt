use Rattle.std.proofs.Common.{rules, ◌≡◌, ap, ◌∙◌, refl, subst, sym}
use Rattle.std.specs.Prelude.{None, Option, Some}
use Rattle.model_desk.specs.Retries.{fate_of}
use Rattle.model_processor.specs.AnyAccounts.{worker_in}
use Rattle.processor_account.specs.Views.{outcomes_view}
use Rattle.retry_core.specs.Retries.{fate_view}
use Rattle.batch_processor.specs.Views.{setup_view}
use Rattle.batch_processor.specs.Working.{Hand, IsWorkingWith, StepsAside, hand_at}
use Rattle.batch_processor.proofs.Turns.{again_step, kept_step, no_step, settle_step, state_of}
use Rattle.batch_processor.proofs.Turns.{told_settled}
use Rattle.batch_processor.proofs.steps.BatchSender.judge.Goals as goal

pub returns-in_default-clause-step : goal.returns-in_default-clause-step
returns-in_default-clause-step g c =
    let s = c.args.self.now in
    let was : Some c.args.hand ≡ hand_at c.hand.inside.batch None = search rules in
    subst (λ (h : Option Hand). StepsAside s (Some c.args.hand) s h) (sym c.in_hand.ensures)
    (subst (λ (h : Option Hand). StepsAside s (Some c.args.hand) s h) was
    (no_step s s (Some c.args.hand) c.requires refl))

pub returns-in-Nothing-clause-step : goal.returns-in-Nothing-clause-step
returns-in-Nothing-clause-step g c =
    let s = c.args.self.now in
    let batch = c.hand.inside.batch in
    let was : Some c.args.hand ≡ hand_at batch (Some c.in-Some.sending) = search rules in
    subst (λ (h : Option Hand). StepsAside s (Some c.args.hand) s h)
    (sym c.in_hand-in-Nothing.ensures)
    (subst (λ (h : Option Hand). StepsAside s h s (hand_at batch (Some c.in-Nothing.sending)))
    (sym was)
    (kept_step s batch c.in-Some.sending (subst (IsWorkingWith s) was c.requires)
    c.in-Nothing.sending c.in-Nothing.ensures.judge.same))

pub returns-in-Again-clause-step : goal.returns-in-Again-clause-step
returns-in-Again-clause-step g c =
    let s = c.args.self.now in
    let batch = c.hand.inside.batch in
    let judged = c.in-Again.ensures.judge in
    let was : Some c.args.hand ≡ hand_at batch (Some c.in-Some.sending) = search rules in
    subst (λ (h : Option Hand). StepsAside s (Some c.args.hand) s h)
    (sym c.in_hand-in-Again.ensures)
    (subst (λ (h : Option Hand). StepsAside s h s (hand_at batch (Some c.in-Again.sending)))
    (sym was)
    (again_step s batch c.in-Some.sending judged.attempt judged.outcome c.now.result
    c.if-is_pending.word judged.stage (subst (IsWorkingWith s) was c.requires) c.in-Again.sending
    c.in-Again.from judged.decided judged.sending))

pub returns-in-Over-clause-step : goal.returns-in-Over-clause-step
returns-in-Over-clause-step g c =
    let s = c.args.self.now in
    let batch = c.hand.inside.batch in
    let judged = c.in-Over.ensures.judge in
    let was : Some c.args.hand ≡ hand_at batch (Some c.in-Some.sending) = search rules in
    let origin = setup_view c.self.inside.setup in
    let os = outcomes_view c.self.inside.outcomes.items in
    let fate = fate_view c.in-Over.fate in
    let os' = outcomes_view c.clear.new.self.items in
    let new = state_of origin (worker_in c.settle.new.self) os' in
    subst (λ (h : Option Hand). StepsAside s h new None) (sym was)
    (settle_step s batch c.in-Some.sending judged.attempt judged.outcome c.now.result
    c.if-is_pending.word judged.stage (subst (IsWorkingWith s) was c.requires)
    fate (ap fate_of judged.decided ∙ judged.ends) new
    (told_settled origin c.self.inside.holder os s c.self.invariant.0 c.self.view_is
    c.settle.new.self os' fate (ap outcomes_view c.clear.ensures.items) c.settle.ensures))
