use Rattle.std.proofs.Common.{map, take, flat_map}
use Rattle.otlp_proto.specs.Group.{scope_group_view}
use Rattle.otlp_proto.specs.Encode.{AddsLens}
use Rattle.otlp_proto.proofs.encoder.spans.add_resource_lens.Given as goal

-- The lengths of the spans of the scopes so far are added.
abbrev pub invariant-loop-scope_group : goal.invariant-loop-scope_group
invariant-loop-scope_group g l =
    AddsLens (flat_map (λ scope. scope.items)
    (map scope_group_view (take l.scope_group-index l.scope_group-items)))
    l.fn.lens.items l.lens.items
