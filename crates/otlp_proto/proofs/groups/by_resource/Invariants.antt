use Rattle.std.proofs.Common.{◌≡◌, take}
use Rattle.model_export.specs.Export.{groups_by, resource_eq}
use Rattle.otlp_proto.specs.Group.{resources_view}
use Rattle.otlp_proto.proofs.groups.by_resource.Given as goal

-- The groups are those of the spans so far.
abbrev pub invariant-loop-span : goal.invariant-loop-span
invariant-loop-span g l =
    resources_view l.resources.entries
    ≡ groups_by resource_eq (λ x. x.resource) (take l.span-index l.spans)
