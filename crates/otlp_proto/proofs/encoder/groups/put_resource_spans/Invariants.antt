use Rattle.std.proofs.Common.{◌≡◌, map, take, drop, flat_map, length}
use Rattle.std.specs.List.{AllByRecursion}
use Rattle.model_message.specs.Tables
use Rattle.model_message.specs.Canon.{row_bytes, bytes_field, canon}
use Rattle.model_message.specs.Whole.{IsMessage}
use Rattle.model_export.specs.Export.{scope_spans_message}
use Rattle.otlp_proto.specs.Group.{scope_group_view}
use Rattle.otlp_proto.specs.Encode.{Carries}
use Rattle.otlp_proto.proofs.encoder.groups.put_resource_spans.Given as goal

-- The scopes so far are put, and the lengths after theirs are left.
abbrev pub invariant-loop-scope_group : goal.invariant-loop-scope_group
invariant-loop-scope_group g l =
    let scopes = map scope_group_view (take l.scope_group-index l.scope_group-items) in
    Carries
    (row_bytes (map (λ x. bytes_field 2 (canon Tables.scope_spans (scope_spans_message x))) scopes))
    (AllByRecursion (λ x. IsMessage Tables.scope_spans (scope_spans_message x)) scopes)
    (g.S.Sink.cursor l.initial.sink) (g.S.Sink.cursor l.sink)
    × (l.rest ≡ drop (length (flat_map (λ scope. scope.items) scopes)) l.lens)
