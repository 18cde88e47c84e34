use Rattle.std.proofs.Common.{rules, ◌≡◌, subst, sym}
use Rattle.std.specs.Prelude.{None, Option}
use Rattle.model_processor.specs.AnyAccounts.{worker_in}
use Rattle.processor_account.specs.Views.{outcomes_view}
use Rattle.batch_processor.specs.Views.{setup_view}
use Rattle.batch_processor.specs.Working.{Hand, StepsAside}
use Rattle.batch_processor.proofs.Turns.{no_step, same_state, state_of, take_told}
use Rattle.batch_processor.proofs.steps.BatchSender.take.Goals as goal

pub returns-in_err-batch : goal.returns-in_err-batch
returns-in_err-batch g c =
    let origin = setup_view c.self.inside.setup in
    let a = c.self.inside.holder in
    let os = outcomes_view c.self.inside.outcomes.items in
    let a' = c.take.new.self in
    let same : a' ≡ a = search rules in
    let none : c.from_residual.result ≡ None = search rules in
    let new = state_of origin (worker_in a') os in
    subst (λ (h : Option Hand). StepsAside c.args.self.now None new h) (sym none)
    (no_step c.args.self.now new None c.requires
    (same_state origin a os c.args.self.now c.self.invariant.0 c.self.view_is a' same))

pub returns : goal.returns
returns g c =
    let origin = setup_view c.self.inside.setup in
    let os = outcomes_view c.self.inside.outcomes.items in
    rw c.in_hand.ensures
    (take_told origin c.self.inside.holder c.take.new.self os c.args.self.now c.in_ok-batch.batch
    c.requires c.self.invariant.0 c.self.view_is c.in_ok-batch.ensures)
