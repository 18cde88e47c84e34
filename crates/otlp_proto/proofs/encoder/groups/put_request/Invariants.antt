use Rattle.std.proofs.Common.{◌≡◌, map, take, drop, length}
use Rattle.std.specs.List.{AllByRecursion}
use Rattle.model_message.specs.Tables
use Rattle.model_message.specs.Canon.{row_bytes, bytes_field, canon}
use Rattle.model_message.specs.Whole.{IsMessage}
use Rattle.model_export.specs.Export.{resource_spans_message}
use Rattle.otlp_proto.specs.Group.{groups_view}
use Rattle.otlp_proto.specs.Encode.{Carries}
use Rattle.otlp_proto.specs.Grouped.{all_spans}
use Rattle.otlp_proto.proofs.encoder.groups.put_request.Given as goal

-- The resources so far are put, and the lengths after theirs are left.
abbrev pub invariant-loop-group : goal.invariant-loop-group
invariant-loop-group g l =
    let resources = groups_view (take l.group-index l.groups) in
    Carries (row_bytes
    (map (λ x. bytes_field 1 (canon Tables.resource_spans (resource_spans_message x))) resources))
    (AllByRecursion (λ x. IsMessage Tables.resource_spans (resource_spans_message x)) resources)
    (g.S.Sink.cursor l.fn.sink) (g.S.Sink.cursor l.sink)
    × (l.rest ≡ drop (length (all_spans resources)) l.lens)
