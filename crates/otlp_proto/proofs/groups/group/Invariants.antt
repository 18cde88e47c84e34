use Rattle.std.proofs.Common.{◌≡◌, ◌++◌, map}
use Rattle.otlp_proto.specs.Group.{resource_group_view, resources_view}
use Rattle.otlp_proto.proofs.Grouped.{by_scope}
use Rattle.otlp_proto.proofs.groups.group.Given as goal

-- The groups, and then the resources that are left, are all resources.
abbrev pub invariant-loop-resource : goal.invariant-loop-resource
invariant-loop-resource g l =
    map resource_group_view l.groups.items ++ map by_scope (resources_view l.resource-iterator)
    ≡ map by_scope (resources_view l.initial.resource-iterator)
