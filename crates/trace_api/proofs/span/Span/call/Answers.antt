use Rattle.otlp_span.proofs.Recorded.{no-end}
use Rattle.trace_api.proofs.span.Span.call.Goals as goal

pub record_call-requires : goal.record_call-requires
record_call-requires g c = no-end _ c.in_default.not-End
