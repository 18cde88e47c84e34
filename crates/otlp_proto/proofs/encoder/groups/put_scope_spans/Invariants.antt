use Rattle.std.proofs.Common.{map, take}
use Rattle.std.specs.List.{AllByRecursion}
use Rattle.model_message.specs.Canon.{row_bytes, bytes_field}
use Rattle.otlp_proto.specs.Encode.{Carries, span_bytes, IsWholeSpan}
use Rattle.otlp_proto.proofs.encoder.groups.put_scope_spans.Given as goal

-- The spans so far are put.
abbrev pub invariant-loop-i : goal.invariant-loop-i
invariant-loop-i g l =
    let spans = map (λ s. s.now) (take l.i l.group.spans.items) in
    Carries (row_bytes (map (λ x. bytes_field 2 (span_bytes x)) spans))
    (AllByRecursion IsWholeSpan spans) (g.S.Sink.cursor l.initial.sink) (g.S.Sink.cursor l.sink)
