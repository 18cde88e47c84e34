use Rattle.std.proofs.Common.{◌≡◌, ap, ◌∙◌, string_bytes}
use Rattle.model_span.proofs.Calls.{adds-name}
use Rattle.otlp_span.specs.Body.{recording_view}
use Rattle.otlp_span.proofs.record.SpanRecord.update_name.Goals as goal

pub returns : goal.returns
returns g c =
    let before : recording_view c.deref_mut.result.now ≡ c.args.self.now =
    ap recording_view c.deref_mut.ensures.value ∙ c.self.view_is in
    rw (← before) (adds-name (recording_view c.deref_mut.result.now) (string_bytes c.args.name))
