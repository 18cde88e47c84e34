use Rattle.std.proofs.Common.{◌≡◌, ◌++◌, map}
use Rattle.otlp_proto.specs.Group.{scope_group_view, scopes_view}
use Rattle.otlp_proto.proofs.groups.scope_groups.Given as goal

-- The groups, and then the scopes that are left, are all scopes.
abbrev pub invariant-loop-scope : goal.invariant-loop-scope
invariant-loop-scope g l =
    map scope_group_view l.groups.items ++ scopes_view l.scope-iterator
    ≡ scopes_view l.initial.scope-iterator
