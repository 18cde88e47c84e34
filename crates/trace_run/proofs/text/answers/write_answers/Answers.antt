use Rattle.std.proofs.Common.{arith, ◌<◌, ◌^◌, map, string_bytes, length}
use Rattle.std.proofs.lemmas.Slice.Zip.{Zip-more, either_empty_from_Zip}
use Rattle.span_exporter.specs.Views.{handed_view}
use Rattle.trace_run.proofs.Texts.{written-first, room-left, written-more, written-all}
use Rattle.trace_run.proofs.text.answers.write_answers.Goals as goal

pub loop-step-init : goal.loop-step-init
loop-step-init g c =
    let iterator = c.into_iter-step-iterator.ensures.into_iter_gives in
    let zip = c.zip-step-items.ensures in
    written-first (map handed_view c.args.handed.now) c.args.steps.now c.args.answers.now
    (string_bytes c.args.out.now) c.first-place.result _ _ c.first-place.ensures
    (rw (iterator, zip.first) c.iter.ensures.rest) (rw iterator zip.second.0)

pub after-place-requires-clause-starts : goal.after-place-requires-clause-starts
after-place-requires-clause-starts g c =
    let more =
    Zip-more c.loop-step.step-iterator c.next.new.self c.next.result _ c.in-Some.is
    c.next.ensures.steps in
    let few : length c.args.steps.now < 2 ^ 64 = omega arith in
    (room-left _ _ _ _ _ c.loop-step.place _ _ _ _ c.loop-step.invariant more.0 few).0

pub after-place-requires-clause-sent : goal.after-place-requires-clause-sent
after-place-requires-clause-sent g c =
    let more =
    Zip-more c.loop-step.step-iterator c.next.new.self c.next.result _ c.in-Some.is
    c.next.ensures.steps in
    let few : length c.args.steps.now < 2 ^ 64 = omega arith in
    (room-left _ _ _ _ _ c.loop-step.place _ _ _ _ c.loop-step.invariant more.0 few).1

pub loop-step-preserved : goal.loop-step-preserved
loop-step-preserved g c =
    let more =
    Zip-more c.loop-step.step-iterator c.next.new.self c.next.result _ c.in-Some.is
    c.next.ensures.steps in
    written-more (map handed_view c.args.handed.now) c.args.steps.now c.args.answers.now
    (string_bytes c.args.out.now) (string_bytes c.loop-step.out) _ c.loop-step.place _
    c.in-Some.step.now c.in-Some.answer.now _ _
    (rw (more.0, more.1) at c.loop-step.invariant) c.in_ok-write_answer.ensures
    c.after-place.ensures

pub returns : goal.returns
returns g c =
    written-all (map handed_view c.args.handed.now) c.args.steps.now c.args.answers.now
    (string_bytes c.args.out.now) (string_bytes c.loop-step.out) c.loop-step.place _ _
    c.loop-step.invariant
    (either_empty_from_Zip c.loop-step.step-iterator c.next.new.self c.next.result c.in-None.is
    c.next.ensures.steps)
