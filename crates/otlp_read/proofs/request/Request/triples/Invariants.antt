use Rattle.std.proofs.Common.{◌≡◌, take}
use Rattle.model_message.specs.Messages.{triples}
use Rattle.model_message.specs.Tables.{◌▸◌}
use Rattle.otlp_read.specs.Requests.{resource_groups_view}
use Rattle.otlp_read.specs.Triples.{triples_view}
use Rattle.otlp_read.proofs.request.Request.triples.Given as goal

-- The spans of the resources so far are found.
abbrev pub invariant-loop-group : goal.invariant-loop-group
invariant-loop-group g l =
    triples_view l.found.items
    ≡ triples (resource_groups_view (take l.group-index l.group-items) ▸ tt)
