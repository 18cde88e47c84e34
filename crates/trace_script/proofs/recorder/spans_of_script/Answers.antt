use Rattle.std.proofs.Common.{◌<◌, ◌^◌, refl, ap, ◌∙◌, arith, [], map}
use Rattle.std.proofs.lemmas.List.{length-map}
use Rattle.trace_run.specs.Steps.{step_view}
use Rattle.trace_script.specs.Recorder.{setup_view, start_steps}
use Rattle.trace_script.proofs.Steps.{begun, starts-few, words-are}
use Rattle.trace_script.proofs.recorder.spans_of_script.Goals as goal

pub take_steps-requires : goal.take_steps-requires
take_steps-requires g c =
    rw (
      c.in_ok-spans.ensures.empty,
      c.in_ok-spans.ensures.room,
      c.count_starts-room.ensures,
      c.as_slice.ensures.value,
      c.as_slice-2.ensures.value,
    ) (omega arith)

pub returns : goal.returns
returns g c =
    let setup = setup_view c.args.script in
    let steps = map step_view c.args.script.steps.items in
    let list = c.args.script.steps in
    let room =
    c.in_ok-spans.ensures.room ∙ c.count_starts-room.ensures ∙ rw c.as_slice.ensures.value refl in
    let few = starts-few steps in
    let bound : start_steps steps < 2 ^ 64 =
    omega (arith, few, length-map list.items step_view, list.ok.0, list.ok.1, list.small) in
    let before = begun setup steps c.in_ok-spans.spans c.in_ok-pass.pass
    (rw (
      c.new-3.ensures,
      words-are c.args.script.words.items,
      c.new-provider.ensures,
      c.in_ok-resource.ensures.ok,
      c.new.ensures,
    ) at c.in_ok-spans.ensures.table)
    c.in_ok-spans.ensures.empty room
    (c.in_ok-pass.ensures.value ∙ rw (c.count_starts-room.ensures, c.as_slice.ensures.value) refl)
    bound in
    let after = (rw c.as_slice-2.ensures.value at c.in_ok-take_steps.ensures) setup [] before in
    ap (λ p. p.spans) after.kept
