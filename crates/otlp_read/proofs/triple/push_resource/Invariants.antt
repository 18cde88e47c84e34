use Rattle.std.proofs.Common.{◌≡◌, ◌++◌, string_bytes, take}
use Rattle.model_message.specs.Messages.{resource_triples}
use Rattle.model_message.specs.Tables.{◌▸◌}
use Rattle.otlp_read.specs.Resources.{resource_view}
use Rattle.otlp_read.specs.Requests.{scope_groups_view}
use Rattle.otlp_read.specs.Triples.{triples_view}
use Rattle.otlp_read.proofs.triple.push_resource.Given as goal

-- The spans of the scopes so far are appended.
abbrev pub invariant-loop-scope_group : goal.invariant-loop-scope_group
invariant-loop-scope_group g l =
    triples_view l.found.items
    ≡ triples_view l.fn.found.items
    ++ resource_triples (resource_view l.group.resource
    ▸ scope_groups_view (take l.scope_group-index l.scope_group-items)
    ▸ string_bytes l.group.schema_url ▸ tt)
