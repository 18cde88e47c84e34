use Rattle.std.proofs.Common.{◌≡◌, ◌++◌, string_bytes, take}
use Rattle.model_message.specs.Messages.{scope_triples}
use Rattle.model_message.specs.Tables.{◌▸◌}
use Rattle.otlp_read.specs.Resources.{resource_view, scope_view}
use Rattle.otlp_read.specs.Spans.{spans_view}
use Rattle.otlp_read.specs.Triples.{triples_view}
use Rattle.otlp_read.proofs.triple.push_scope.Given as goal

-- The spans so far are appended.
abbrev pub invariant-loop-span : goal.invariant-loop-span
invariant-loop-span g l =
    triples_view l.found.items
    ≡ triples_view l.fn.found.items
    ++ scope_triples (resource_view l.group.resource) (string_bytes l.group.schema_url)
    (scope_view l.scope_group.scope ▸ spans_view (take l.span-index l.span-items)
    ▸ string_bytes l.scope_group.schema_url ▸ tt)
