use Rattle.std.proofs.Common.{take, []}
use Rattle.otlp_proto.specs.Group.{groups_view}
use Rattle.otlp_proto.specs.Encode.{AddsLens}
use Rattle.otlp_proto.specs.Grouped.{all_spans}
use Rattle.otlp_proto.proofs.encoder.spans.encoded_lens.Given as goal

-- The lengths of the spans of the groups so far are added.
abbrev pub invariant-loop-group : goal.invariant-loop-group
invariant-loop-group g l =
    AddsLens (all_spans (groups_view (take l.group-index l.groups))) [] l.lens.items
