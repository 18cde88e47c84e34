use Rattle.std.proofs.Common.{◌≡◌, ap, ◌∙◌}
use Rattle.model_span.proofs.Calls.{ends-at}
use Rattle.otlp_span.specs.Body.{recording_view}
use Rattle.otlp_span.proofs.record.SpanRecord.close.Goals as goal

pub returns : goal.returns
returns g c =
    let before : recording_view c.deref_mut.result.now ≡ c.args.self =
    ap recording_view c.deref_mut.ensures.value ∙ c.self.view_is in
    rw (← before) (ends-at (recording_view c.deref_mut.result.now) c.args.end)
