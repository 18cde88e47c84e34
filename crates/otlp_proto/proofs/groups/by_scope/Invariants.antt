use Rattle.std.proofs.Common.{◌≡◌, map, take}
use Rattle.model_export.specs.Export.{groups_by, scope_eq}
use Rattle.otlp_proto.specs.Group.{scopes_view}
use Rattle.otlp_proto.proofs.groups.by_scope.Given as goal

-- The groups are those of the spans so far.
abbrev pub invariant-loop-span : goal.invariant-loop-span
invariant-loop-span g l =
    scopes_view l.scopes.entries
    ≡ groups_by scope_eq (λ x. x.scope) (map (λ s. s.now) (take l.span-index l.spans))
