use Rattle.std.proofs.Common.{refl, ◌∙◌}
use Rattle.trace_run.specs.Answers.{answer_view}
use Rattle.trace_run.specs.Steps.{step_view}
use Rattle.trace_run.proofs.Places.{after-more, one-if}
use Rattle.trace_run.proofs.text.place.Place.after.Goals as goal

pub returns : goal.returns
returns g c before is =
    let from = c.from.ensures ∙ one-if _ in
    let from-2 = c.from-2.ensures ∙ one-if _ in
    after-more before
    (record { step = step_view c.args.step.now; answer = answer_view c.args.answer.now })
    c.args.self _ is
    (rw (from, c.is_start.ensures) refl) (rw (from-2, c.is_sent.ensures) refl)
