use Rattle.std.proofs.Common.{◌<◌, ◌+◌, ◌-◌, ◌^◌, refl, sym, ap, ◌∙◌, arith, length, take, take_all}
use Rattle.std.proofs.lemmas.List.{length_push}
use Rattle.model_run.specs.Runs.{Answered}
use Rattle.model_run.specs.Laws.{OfSettings, LateAfterShutdown, DroppedWhereFull, QueuedWhereRoom}
use Rattle.model_run.specs.Laws.{TakenWhereDue, TakesTheFirst, TakenAfterShutdown, OneBatchIsOut}
use Rattle.model_run.specs.Laws.{EncodedWhereItFits, DroppedUnencoded, AttemptsAreNumbered}
use Rattle.model_run.specs.Laws.{AttemptsAreFew, AttemptsAreFiveAtMost, NoAttemptIsEarly}
use Rattle.model_run.specs.Laws.{RepliesAreDecided}
use Rattle.trace_run.specs.Answers.{answer_view, history_view}
use Rattle.trace_run.specs.Steps.{step_view}
use Rattle.trace_run.specs.Run.{run_config}
use Rattle.trace_run.proofs.Standing.{desk-is}
use Rattle.trace_run.proofs.Bodies.{body-stays, headline, canonical}
use Rattle.trace_run.proofs.Runs.{stands-first, tells-none, tells-more, tells-still, attempts-push}
use Rattle.trace_run.proofs.Runs.{is-allowed, of-law, after-length, after-push}
use Rattle.trace_run.proofs.whole.run.Goals as goal

pub loop-step-init : goal.loop-step-init
loop-step-init g c = record {
  stands =
      stands-first g.S.Sampler.meaning g.R.Rng.stream
      (run_config g.S.Sampler.meaning g.R.Rng.stream c.args.config) _ _
      (rw (c.new-provider.ensures, c.in_ok-resource.ensures.ok) at c.in_ok-table.ensures.table)
      c.in_ok-table.ensures.empty c.in-Ok.ensures.desk c.in-Ok.ensures.history;
  told = tells-none _ (g.E.Exporter.handed c.args.exporter.now);
  ready = tt;
  retry = refl;
  max_body = refl;
  count = ap length c.in_ok-answers.ensures.items;
  answers_room = c.in_ok-answers.ensures.exact;
  table_room = c.in_ok-table.ensures.room;
}

pub take_step-answer-requires-clause-room : goal.take_step-answer-requires-clause-room
take_step-answer-requires-clause-room g c =
    let i = c.loop-step.invariant in
    let many =
    after-length c.args.steps.now c.loop-step.answers.items c.loop-step.step-index i.count
    c.loop-step-test.true in
    omega (arith, i.stands.bound, many, c.loop-step-test.true, i.table_room)

pub loop-step-preserved : goal.loop-step-preserved
loop-step-preserved g c =
    let i = c.loop-step.invariant in
    let run = run_config g.S.Sampler.meaning g.R.Rng.stream c.args.config in
    let h = history_view (take c.loop-step.step-index c.args.steps.now) c.loop-step.answers.items in
    let small : length h < 2 ^ 64 - 1 =
    omega (
      arith,
      after-length c.args.steps.now c.loop-step.answers.items c.loop-step.step-index i.count
          c.loop-step-test.true,
      c.loop-step-test.true,
    ) in
    let pushed =
    after-push c.args.steps.now c.loop-step.answers.items c.loop-step.step-index c.step-item.result
    c.take_step-answer.result.0 i.count c.loop-step-test.true c.step-item.is in
    let x : Answered =
    record {
      step = step_view c.step-item.result;
      answer = answer_view c.take_step-answer.result.0;
    } in
    let stands =
    c.take_step-answer.ensures.goes_on run h small (sym i.retry) (sym i.max_body) i.stands in
    let still = body-stays c.batches_are_slices.ensures.stay run.setup h x _ stands.history in
    record {
      stands = rw (c.push_reserved.ensures.items, pushed) stands;
      told = rw (c.push_reserved.ensures.items, pushed, attempts-push h x)
          (tells-more _ _ _ _ _ _ (tells-still _ _ _ _ _ still i.told)
          (tells-still _ _ _ _ _ still (c.take_step-answer.ensures.told run h i.stands)));
      ready = c.take_step-answer.ensures.ready;
      retry = c.take_step-answer.ensures.retry ∙ i.retry;
      max_body = c.take_step-answer.ensures.max_body ∙ i.max_body;
      count =
          ap length c.push_reserved.ensures.items
          ∙ length_push c.loop-step.answers.items c.take_step-answer.result.0
          ∙ ap (λ n. n + 1) i.count;
      answers_room = c.push_reserved.ensures.capacity ∙ i.answers_room;
      table_room = c.take_step-answer.ensures.room ∙ i.table_room;
    }

pub returns-clause-headline : goal.returns-clause-headline
returns-clause-headline g c =
    let i = c.loop-step.invariant in
    let run = run_config g.S.Sampler.meaning g.R.Rng.stream c.args.config in
    let all = take_all c.loop-step.step-index c.args.steps.now c.loop-step-test.false in
    let right = i.stands.answers in
    let allowed = is-allowed g.S.Sampler.meaning g.R.Rng.stream run _ _ _ _ i.stands in
    let law = c.none_is_unaccounted_for.ensures in
    let values = c.queued_spans_are_ended.ensures in
    rw all at (headline run _ _ _ i.told (law.once run _ right allowed)
    (record {
      waiting = values.waiting run _ right;
      batches = values.batches run _ right;
      named = values.drops run _ right;
    })
    (law.named run _) (law.batches run _ right allowed)
    (c.attempts_are_answered.ensures.in_order run _ right))

pub returns-clause-losses : goal.returns-clause-losses
returns-clause-losses g c =
    let i = c.loop-step.invariant in
    let run = run_config g.S.Sampler.meaning g.R.Rng.stream c.args.config in
    let allowed = is-allowed g.S.Sampler.meaning g.R.Rng.stream run _ _ _ _ i.stands in
    rw (take_all c.loop-step.step-index c.args.steps.now c.loop-step-test.false) at
    (c.losses_are_named.ensures run _ i.stands.answers allowed)

pub returns-clause-canon : goal.returns-clause-canon
returns-clause-canon g c =
    let i = c.loop-step.invariant in
    let all = take_all c.loop-step.step-index c.args.steps.now c.loop-step-test.false in
    rw all at (canonical (run_config g.S.Sampler.meaning g.R.Rng.stream c.args.config) _ _ _ i.told)

pub returns-clause-desk : goal.returns-clause-desk
returns-clause-desk g c =
    let i = c.loop-step.invariant in
    let run = run_config g.S.Sampler.meaning g.R.Rng.stream c.args.config in
    c.queue.view_is
    ∙ rw (take_all c.loop-step.step-index c.args.steps.now c.loop-step-test.false) at
    (desk-is g.S.Sampler.meaning g.R.Rng.stream run _ _ _ _ i.stands)

pub returns-clause-out : goal.returns-clause-out
returns-clause-out g c =
    rw (take_all c.loop-step.step-index c.args.steps.now c.loop-step-test.false) at
    c.loop-step.invariant.stands.out_is

pub returns-clause-not_named : goal.returns-clause-not_named
returns-clause-not_named g c =
    let run = run_config g.S.Sampler.meaning g.R.Rng.stream c.args.config in
    let whole = returns-clause-headline g c in
    c.none_is_unaccounted_for.ensures.handed run.setup
    (history_view c.args.steps.now c.loop-step.answers.items) whole.each_once

pub returns-clause-ledger : goal.returns-clause-ledger
returns-clause-ledger g c =
    c.none_is_unaccounted_for.ensures.named
    (run_config g.S.Sampler.meaning g.R.Rng.stream c.args.config)
    (history_view c.args.steps.now c.loop-step.answers.items)

-- ---- laws of each run

pub returns-clause-late : goal.returns-clause-late
returns-clause-late g c =
    of-law LateAfterShutdown c.ends_are_answered.ensures.late
    (run_config g.S.Sampler.meaning g.R.Rng.stream c.args.config) _ _ _
    (take_all c.loop-step.step-index c.args.steps.now c.loop-step-test.false)
    c.loop-step.invariant.stands.answers

pub returns-clause-full : goal.returns-clause-full
returns-clause-full g c =
    of-law DroppedWhereFull c.ends_are_answered.ensures.full
    (run_config g.S.Sampler.meaning g.R.Rng.stream c.args.config) _ _ _
    (take_all c.loop-step.step-index c.args.steps.now c.loop-step-test.false)
    c.loop-step.invariant.stands.answers

pub returns-clause-queued : goal.returns-clause-queued
returns-clause-queued g c =
    of-law QueuedWhereRoom c.ends_are_answered.ensures.queued
    (run_config g.S.Sampler.meaning g.R.Rng.stream c.args.config) _ _ _
    (take_all c.loop-step.step-index c.args.steps.now c.loop-step-test.false)
    c.loop-step.invariant.stands.answers

pub returns-clause-due : goal.returns-clause-due
returns-clause-due g c =
    of-law TakenWhereDue c.takes_are_answered.ensures.due
    (run_config g.S.Sampler.meaning g.R.Rng.stream c.args.config) _ _ _
    (take_all c.loop-step.step-index c.args.steps.now c.loop-step-test.false)
    c.loop-step.invariant.stands.answers

pub returns-clause-first : goal.returns-clause-first
returns-clause-first g c =
    of-law TakesTheFirst c.takes_are_answered.ensures.first
    (run_config g.S.Sampler.meaning g.R.Rng.stream c.args.config) _ _ _
    (take_all c.loop-step.step-index c.args.steps.now c.loop-step-test.false)
    c.loop-step.invariant.stands.answers

pub returns-clause-shutdown : goal.returns-clause-shutdown
returns-clause-shutdown g c =
    of-law TakenAfterShutdown c.takes_are_answered.ensures.shutdown
    (run_config g.S.Sampler.meaning g.R.Rng.stream c.args.config) _ _ _
    (take_all c.loop-step.step-index c.args.steps.now c.loop-step-test.false)
    c.loop-step.invariant.stands.answers

pub returns-clause-one_out : goal.returns-clause-one_out
returns-clause-one_out g c =
    of-law (λ run. OneBatchIsOut) c.one_batch_is_out.ensures.one
    (run_config g.S.Sampler.meaning g.R.Rng.stream c.args.config) _ _ _
    (take_all c.loop-step.step-index c.args.steps.now c.loop-step-test.false)
    c.loop-step.invariant.stands.answers

pub returns-clause-fits : goal.returns-clause-fits
returns-clause-fits g c =
    of-law EncodedWhereItFits c.encodings_are_answered.ensures.fits
    (run_config g.S.Sampler.meaning g.R.Rng.stream c.args.config) _ _ _
    (take_all c.loop-step.step-index c.args.steps.now c.loop-step-test.false)
    c.loop-step.invariant.stands.answers

pub returns-clause-dropped : goal.returns-clause-dropped
returns-clause-dropped g c =
    of-law DroppedUnencoded c.encodings_are_answered.ensures.dropped
    (run_config g.S.Sampler.meaning g.R.Rng.stream c.args.config) _ _ _
    (take_all c.loop-step.step-index c.args.steps.now c.loop-step-test.false)
    c.loop-step.invariant.stands.answers

pub returns-clause-names : goal.returns-clause-names
returns-clause-names g c =
    c.encodings_are_answered.ensures.named
    (run_config g.S.Sampler.meaning g.R.Rng.stream c.args.config).setup
    (history_view c.args.steps.now c.loop-step.answers.items)

pub returns-clause-numbered : goal.returns-clause-numbered
returns-clause-numbered g c =
    of-law (λ run. AttemptsAreNumbered) c.attempts_are_answered.ensures.numbered
    (run_config g.S.Sampler.meaning g.R.Rng.stream c.args.config) _ _ _
    (take_all c.loop-step.step-index c.args.steps.now c.loop-step-test.false)
    c.loop-step.invariant.stands.answers

pub returns-clause-few : goal.returns-clause-few
returns-clause-few g c =
    of-law (OfSettings AttemptsAreFew) c.attempts_are_answered.ensures.few
    (run_config g.S.Sampler.meaning g.R.Rng.stream c.args.config) _ _ _
    (take_all c.loop-step.step-index c.args.steps.now c.loop-step-test.false)
    c.loop-step.invariant.stands.answers c.attempts.ensures.valid

pub returns-clause-five : goal.returns-clause-five
returns-clause-five g c =
    of-law (OfSettings (λ run. AttemptsAreFiveAtMost)) c.attempts_are_answered.ensures.five
    (run_config g.S.Sampler.meaning g.R.Rng.stream c.args.config) _ _ _
    (take_all c.loop-step.step-index c.args.steps.now c.loop-step-test.false)
    c.loop-step.invariant.stands.answers c.attempts.ensures.valid

pub returns-clause-early : goal.returns-clause-early
returns-clause-early g c =
    of-law (λ run. NoAttemptIsEarly) c.attempts_are_answered.ensures.early
    (run_config g.S.Sampler.meaning g.R.Rng.stream c.args.config) _ _ _
    (take_all c.loop-step.step-index c.args.steps.now c.loop-step-test.false)
    c.loop-step.invariant.stands.answers

pub returns-clause-decided : goal.returns-clause-decided
returns-clause-decided g c =
    of-law RepliesAreDecided c.attempts_are_answered.ensures.decided
    (run_config g.S.Sampler.meaning g.R.Rng.stream c.args.config) _ _ _
    (take_all c.loop-step.step-index c.args.steps.now c.loop-step-test.false)
    c.loop-step.invariant.stands.answers
