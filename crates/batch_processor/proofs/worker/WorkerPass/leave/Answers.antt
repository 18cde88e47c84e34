use Rattle.std.proofs.Common.{rules, ◌≡◌, Bool, true, false, ap, sym, ◌∙◌, subst}
use Rattle.std.specs.Prelude.{Option, Some, None}
use Rattle.model_processor.specs.AnyAccounts.{after_left, worker_in}
use Rattle.processor_account.specs.Views.{outcomes_view}
use Rattle.batch_processor.specs.Views.{setup_view}
use Rattle.batch_processor.specs.Working.{Hand, IsPassWith, IsWorkingWith, WorkerState}
use Rattle.batch_processor.proofs.Turns.{leaves_with, state_of, told_state}
use Rattle.batch_processor.proofs.worker.WorkerPass.leave.Goals as goal

pub invariant_of-self-2 : goal.invariant_of-self-2
invariant_of-self-2 g c =
    let first = c.self-inside.inside.0.0 in
    let then = c.self-inside-2.inside.0.0 in
    let os = outcomes_view then.outcomes.items in
    let origin = setup_view then.setup in
    let was : c.self.inside.in_hand ≡ Some c.in-Some.hand = search rules in
    let state =
    state_of (setup_view first.setup) (worker_in first.holder)
    (outcomes_view first.outcomes.items) in
    let sender : state ≡ c.self.inside.sender = search rules in
    let here : c.self.inside.left ≡ false = search rules in
    let later : state_of origin (worker_in then.holder) os ≡ c.abandon.new.self = search rules in
    let new = state_of origin (worker_in c.leave-2.new.self) os in
    let is =
    told_state origin then.holder os c.abandon.new.self c.self-inside-2.invariant.0 later
    c.leave-2.new.self after_left c.leave-2.ensures
    ∙ ap (λ (s : WorkerState). record s { account = after_left s.account }) c.abandon.ensures in
    let gone : c.self-inside-2.inside.0.1.1.0 ≡ true = search rules in
    let none : c.self-inside-2.inside.0.1.0 ≡ None = search rules in
    subst (λ (b : Bool). IsPassWith b new c.self-inside-2.inside.0.1.0) (sym gone)
    (subst (λ (h : Option Hand). IsPassWith true new h) (sym none)
    (subst (λ (s : WorkerState). IsPassWith true s None) (sym is)
    (leaves_with state c.in-Some.hand
    (subst (λ (s : WorkerState). IsWorkingWith s (Some c.in-Some.hand)) (sym sender)
    (subst (IsWorkingWith c.self.inside.sender) was (c.self.invariant.works here))))))
