use Rattle.std.proofs.Common.{◌≡◌, refl, sym, ap, ◌∙◌, arith, ◌∷◌, ◌++◌, ◌+◌, [], append_assoc}
use Rattle.std.proofs.Common.{drop, map}
use Rattle.std.proofs.lemmas.List.{append-nil}
use Rattle.model_run.specs.History.{granted_steps}
use Rattle.trace_run.specs.Steps.{step_view}
use Rattle.trace_script.specs.Recorder.{granted, start_steps}
use Rattle.trace_script.proofs.Steps.{granted-cons, granted-shut, idle, next-item, none-left}
use Rattle.trace_script.proofs.Steps.{records-more, starts-cons}
use Rattle.trace_script.proofs.recorder.take_steps.Goals as goal

pub loop-step-init : goal.loop-step-init
loop-step-init g c = (([], refl, idle c.args.spans.now c.args.pass.now), c.requires)

pub take_step-requires : goal.take_step-requires
take_step-requires g c =
    let at = c.loop-step in
    let steps = c.args.steps.now in
    let x = c.step-item.result in
    let rest = map step_view (drop (at.step-index + 1) steps) in
    let next : map step_view (drop at.step-index steps) ≡ step_view x ∷ rest =
    ap (map step_view) (next-item steps at.step-index x c.loop-step-test.true c.step-item.is) in
    omega (arith, at.invariant.1, ap start_steps next, starts-cons (step_view x) rest)

pub loop-step-preserved : goal.loop-step-preserved
loop-step-preserved g c =
    let at = c.loop-step in
    let steps = c.args.steps.now in
    let x = c.step-item.result in
    let rest = map step_view (drop (at.step-index + 1) steps) in
    let next : map step_view (drop at.step-index steps) ≡ step_view x ∷ rest =
    ap (map step_view) (next-item steps at.step-index x c.loop-step-test.true c.step-item.is) in
    let inv = at.invariant.0 in
    let took = c.in_ok-take_step.ensures in
    let all = append_assoc inv.0 (granted (step_view x)) (granted_steps rest)
    ∙ ap (λ more. inv.0 ++ more)
    (sym (granted-cons (step_view x) rest (sym c.is_shutdown.ensures ∙ c.if-is_shutdown.false)))
    ∙ ap (λ later. inv.0 ++ granted_steps later) (sym next) ∙ inv.1 in (
      (
        inv.0 ++ granted (step_view x),
        all,
        records-more inv.0
            (granted (step_view x)) c.args.spans.now at.spans c.take_step.new.spans c.args.pass.now
            at.pass c.take_step.new.pass inv.2 took.taken,
      ),
      omega (
        arith,
        at.invariant.1,
        ap start_steps next,
        starts-cons (step_view x) rest,
        took.many,
        took.room,
      ),
    )

pub returns-then-is_shutdown : goal.returns-then-is_shutdown
returns-then-is_shutdown g c =
    let at = c.loop-step in
    let steps = c.args.steps.now in
    let x = c.step-item.result in
    let rest = map step_view (drop (at.step-index + 1) steps) in
    let next : map step_view (drop at.step-index steps) ≡ step_view x ∷ rest =
    ap (map step_view) (next-item steps at.step-index x c.loop-step-test.true c.step-item.is) in
    let inv = at.invariant.0 in
    let none =
    ap granted_steps next
    ∙ granted-shut (step_view x) rest (sym c.is_shutdown.ensures ∙ c.if-is_shutdown.true) in
    rw (sym (sym (append-nil inv.0) ∙ ap (λ more. inv.0 ++ more) (sym none) ∙ inv.1)) inv.2

pub returns : goal.returns
returns g c =
    let at = c.loop-step in
    let steps = c.args.steps.now in
    let inv = at.invariant.0 in
    let none =
    ap (λ later. granted_steps (map step_view later))
    (none-left steps at.step-index c.loop-step-test.false) in
    rw (sym (sym (append-nil inv.0) ∙ ap (λ more. inv.0 ++ more) (sym none) ∙ inv.1)) inv.2
