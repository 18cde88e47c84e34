use Rattle.std.proofs.Common.{◌≡◌, sym, ap, ◌∙◌, true, false}
use Rattle.model_span.specs.Spans.{is_ok_status}
use Rattle.model_span.proofs.Calls.{adds-status, adds-status-after-ok, adds-unset}
use Rattle.otlp_span.specs.Body.{recording_view}
use Rattle.otlp_span.specs.Parts.{is_unset_status, status_view}
use Rattle.otlp_span.proofs.record.SpanRecord.set_status.Goals as goal
use Rattle.otlp_span.proofs.record.SpanRecord.set_status.Goals.{
  else-not-is_final-via-then-not-is_final+else-not-is_unset,
}
use Rattle.otlp_span.proofs.record.SpanRecord.set_status.Goals.{
  else-not-is_final-via-else-not-is_final,
}

pub returns-then-not-is_unset : goal.returns-then-not-is_unset
returns-then-not-is_unset g c =
    let before : recording_view c.deref_mut.result.now ≡ c.args.self.now =
    ap recording_view c.deref_mut.ensures.value ∙ c.self.view_is in
    let unset_or_error : is_ok_status (recording_view c.deref_mut.result.now).span.status ≡ false =
    ap (λ b. is_ok_status (recording_view b).span.status)
    (c.deref_mut.ensures.value ∙ sym c.deref.ensures)
    ∙ sym c.is_final.ensures ∙ c.if-not-is_final.true in
    let counts : is_unset_status (status_view c.args.status) ≡ false =
    sym c.is_unset.ensures ∙ c.if-not-is_unset.true in
    rw (← before)
    (adds-status (recording_view c.deref_mut.result.now)
    (status_view c.args.status) unset_or_error counts)

pub returns-else-not-is_final : goal.returns-else-not-is_final
returns-else-not-is_final g c = elim c.else-not-is_final.branch [
  | else-not-is_final-via-then-not-is_final+else-not-is_unset w ↦
      adds-unset c.args.self.now (status_view c.args.status)
      (sym w.is_unset.ensures ∙ w.if-not-is_unset.false)
  | else-not-is_final-via-else-not-is_final w ↦
      let final : is_ok_status c.args.self.now.span.status ≡ true =
      sym (ap (λ b. is_ok_status (recording_view b).span.status) c.deref.ensures
      ∙ ap (λ r. is_ok_status r.span.status) c.self.view_is)
      ∙ sym c.is_final.ensures ∙ w.if-not-is_final.false in
      adds-status-after-ok c.args.self.now (status_view c.args.status) final
]
