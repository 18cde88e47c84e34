use Rattle.std.proofs.Common.{ℕ, ◌≤◌, List, length, ap, ◌∙◌, subst, sym}
use Rattle.std.specs.Prelude.{None, Option}
use Rattle.model_span.specs.Spans.{SpanData}
use Rattle.model_export.specs.Export.{LacksBody}
use Rattle.model_processor.specs.AnyAccounts.{after_drop, worker_in}
use Rattle.model_processor.specs.WorkerClauses.{IsBodyOf}
use Rattle.processor_account.specs.Views.{outcomes_view}
use Rattle.batch_processor.specs.Views.{setup_view}
use Rattle.otlp_proto.specs.Bodies.{reason_of}
use Rattle.otlp_span.specs.Dropped.{reason_view}
use Rattle.batch_sending.specs.Sendings.{Sending, to_send}
use Rattle.batch_processor.specs.Working.{Hand, TakesStep, WorkerState, hand_at}
use Rattle.batch_processor.proofs.Turns.{encode_step, lack_step, state_of, told_state}
use Rattle.batch_processor.proofs.steps.BatchSender.encode.Goals as goal

pub returns-in-Ok : goal.returns-in-Ok
returns-in-Ok g c =
    let old = c.args.exporter.now in
    let new = c.prepare.new.exporter in
    let s = c.args.self.now in
    let sending = c.in-Ok.sending in
    let body = sending.body in
    let told = g.E.Exporter.handed old in
    let told' = g.E.Exporter.handed new in
    let room' = g.E.Exporter.room new in
    let retry = c.self.inside.setup.config.retry in
    let is =
    c.in-Ok.ensures.unsent
    ∙ ap (λ (n : ℕ).
    let x : Sending = record { number = n; body = body; retry = retry; stage = to_send } in x)
    c.number-number.ensures
    ∙ ap (λ (x : WorkerState).
    let y : Sending =
    record {
      number = c.args.batch.number;
      body = body;
      retry = x.origin.retry;
      stage = to_send;
    } in
    y)
    c.self.view_is in
    subst
    (λ (h : Option Hand). TakesStep told told' room' s (hand_at c.args.batch None) s h)
    (sym c.in_hand.ensures)
    (encode_step told told' (g.E.Exporter.room old) room' s c.args.batch c.requires
    c.in-Ok.ensures.nothing_is_sent sending is
    (subst (λ (xs : List SpanData). IsBodyOf xs body) c.spans-spans.ensures c.in-Ok.ensures.body)
    (subst (λ (x : WorkerState). length body ≤ x.origin.max_body) c.self.view_is
    c.in-Ok.ensures.fits)
    c.in-Ok.ensures.room)

pub returns-in-Err : goal.returns-in-Err
returns-in-Err g c =
    let old = c.args.exporter.now in
    let new = c.prepare.new.exporter in
    let reason = reason_view c.reason.result in
    let max = c.self.inside.setup.config.max_body in
    let origin = setup_view c.self.inside.setup in
    let os = outcomes_view c.self.inside.outcomes.items in
    let h = c.drop_batch.new.self in
    lack_step (g.E.Exporter.handed old) (g.E.Exporter.handed new) (g.E.Exporter.room old)
    (g.E.Exporter.room new) c.args.self.now c.args.batch c.requires
    c.in-Err.ensures.nothing_is_sent (state_of origin (worker_in h) os) reason
    (subst (λ (x : WorkerState). LacksBody x.origin.max_body c.args.batch.spans reason)
    c.self.view_is
    (subst (λ r. LacksBody max c.args.batch.spans (reason_view r)) (sym c.reason.ensures.is)
    (subst (λ (xs : List SpanData). LacksBody max xs (reason_view (reason_of c.in-Err.fault)))
    c.spans-spans.ensures c.in-Err.ensures.lacks)))
    (told_state origin c.self.inside.holder os c.args.self.now c.self.invariant.0 c.self.view_is h
    (after_drop reason) c.drop_batch.ensures)
