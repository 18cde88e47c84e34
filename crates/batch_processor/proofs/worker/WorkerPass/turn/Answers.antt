use Rattle.std.proofs.Common.{rules, ◌≡◌, false, ap, ◌∙◌, subst, sym}
use Rattle.std.specs.Prelude.{None, Some}
use Rattle.model_processor.specs.AnyAccounts.{worker_in}
use Rattle.processor_account.specs.Views.{outcomes_view}
use Rattle.batch_processor.specs.Views.{setup_view}
use Rattle.batch_processor.specs.Working.{IsWorkingWith, Work}
use Rattle.batch_processor.proofs.Drains.{drained_told}
use Rattle.batch_processor.proofs.Turns.{no_hand_out, pass_works, state_of, turn_goes, turn_ready}
use Rattle.batch_processor.proofs.worker.WorkerPass.turn.Goals as goal

pub invariant_of-self : goal.invariant_of-self
invariant_of-self g c =
    let told = g.E.Exporter.handed c.args.exporter.now in
    let room = g.E.Exporter.room c.args.exporter.now in
    let inner = c.self-inside.inside.0.0 in
    let os = outcomes_view inner.outcomes.items in
    let origin = setup_view inner.setup in
    let old = c.take-in_default.new.self in
    let new = state_of origin (worker_in c.drained.new.self) os in
    let view : state_of origin (worker_in inner.holder) os ≡ old = search rules in
    let step =
    drained_told origin inner.holder c.drained.new.self os c.self.inside.sender old
    c.drained.result c.self-inside.invariant.0 view c.in_default-take.ensures
    c.drained.ensures.yes c.drained.ensures.no in
    let none : c.self-inside.inside.0.1.0 ≡ None = search rules in
    let same : c.self-inside.inside.0.1.1.0 ≡ c.self.inside.left = search rules in
    let here : c.self.inside.left ≡ false =
    sym c.self.invariant.left_is ∙ ap (λ (x : Work). x.account.left) c.self.view_is
    ∙ c.requires.here in
    pass_works c.self-inside.inside.0.1.1.0 new c.self-inside.inside.0.1.0 (same ∙ here)
    (subst (IsWorkingWith new) (sym none) (step told room tt).ready.works)

pub returns-in_default-take-clause-goes_on : goal.returns-in_default-take-clause-goes_on
returns-in_default-take-clause-goes_on g c =
    let told = g.E.Exporter.handed c.args.exporter.now in
    let room = g.E.Exporter.room c.args.exporter.now in
    let inner = c.self-inside.inside.0.0 in
    let os = outcomes_view inner.outcomes.items in
    let origin = setup_view inner.setup in
    let old = c.take-in_default.new.self in
    let new = state_of origin (worker_in c.drained.new.self) os in
    let view : state_of origin (worker_in inner.holder) os ≡ old = search rules in
    let step =
    drained_told origin inner.holder c.drained.new.self os c.self.inside.sender old
    c.drained.result c.self-inside.invariant.0 view c.in_default-take.ensures
    c.drained.ensures.yes c.drained.ensures.no in
    let none : c.self-inside.inside.0.1.0 ≡ None = search rules in
    let was : c.self.inside.in_hand ≡ None = search rules in
    turn_goes told told room c.self.inside.sender new c.self.inside.in_hand None None
    c.self-inside.inside.0.1.0 c.args.self.now c.self.view_is was none (step told room tt)

pub invariant_of-self-in_default : goal.invariant_of-self-in_default
invariant_of-self-in_default g c =
    let told = g.E.Exporter.handed c.args.exporter.now in
    let room = g.E.Exporter.room c.args.exporter.now in
    let here : c.self.inside.left ≡ false =
    sym c.self.invariant.left_is ∙ ap (λ (x : Work). x.account.left) c.self.view_is
    ∙ c.requires.here in
    pass_works c.self.inside.left c.take-in_default.new.self c.keep.new.in_hand here
    (turn_ready told told room c.self.inside.sender c.take-in_default.new.self None
    (Some c.in-Some-take.hand) c.keep.new.in_hand c.keep.ensures
    (c.in-Some-take.ensures told room tt)).works

pub returns-in_default-clause-prepared : goal.returns-in_default-clause-prepared
returns-in_default-clause-prepared g c =
    let told = g.E.Exporter.handed c.args.exporter.now in
    let room = g.E.Exporter.room c.args.exporter.now in
    (turn_ready told told room c.self.inside.sender c.take-in_default.new.self None
    (Some c.in-Some-take.hand) c.keep.new.in_hand c.keep.ensures
    (c.in-Some-take.ensures told room tt)).prepared

pub returns-in_default-clause-goes_on : goal.returns-in_default-clause-goes_on
returns-in_default-clause-goes_on g c =
    let told = g.E.Exporter.handed c.args.exporter.now in
    let room = g.E.Exporter.room c.args.exporter.now in
    let was : c.self.inside.in_hand ≡ None = search rules in
    turn_goes told told room c.self.inside.sender c.take-in_default.new.self c.self.inside.in_hand
    None
    (Some c.in-Some-take.hand) c.keep.new.in_hand c.args.self.now c.self.view_is was c.keep.ensures
    (c.in-Some-take.ensures told room tt)

pub returns-in_default-take-clause-none_out : goal.returns-in_default-take-clause-none_out
returns-in_default-take-clause-none_out g c = λ _.
    let told = g.E.Exporter.handed c.args.exporter.now in
    let room = g.E.Exporter.room c.args.exporter.now in
    let inner = c.self-inside.inside.0.0 in
    let os = outcomes_view inner.outcomes.items in
    let origin = setup_view inner.setup in
    let old = c.take-in_default.new.self in
    let new = state_of origin (worker_in c.drained.new.self) os in
    let view : state_of origin (worker_in inner.holder) os ≡ old = search rules in
    let step =
    drained_told origin inner.holder c.drained.new.self os c.self.inside.sender old
    c.drained.result c.self-inside.invariant.0 view c.in_default-take.ensures
    c.drained.ensures.yes c.drained.ensures.no in
    let none : c.self-inside.inside.0.1.0 ≡ None = search rules in
    no_hand_out new c.self-inside.inside.0.1.0 none (step told room tt).ready.works
