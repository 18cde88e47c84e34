use Rattle.std.proofs.Common.{string_bytes}
use Rattle.model_message.specs.Messages.{scope_triples}
use Rattle.otlp_read.specs.Resources.{resource_view}
use Rattle.otlp_read.specs.Requests.{scope_spans_view}
use Rattle.otlp_read.specs.Triples.{triples_view}
use Rattle.otlp_read.proofs.TripleSteps.{flat_map-more, on-err-always, some-part}
use Rattle.otlp_read.proofs.triple.push_resource.Goals as goal

pub loop-scope_group-preserved : goal.loop-scope_group-preserved
loop-scope_group-preserved g c =
    flat_map-more (scope_triples (resource_view c.args.group.now.resource)
    (string_bytes c.args.group.now.schema_url))
    scope_spans_view c.deref-scope_group-items.result.now c.loop-scope_group.scope_group-index
    c.scope_group-item.result c.loop-scope_group-test.true c.scope_group-item.is
    (triples_view c.args.found.now.items) (triples_view c.loop-scope_group.found.items)
    (triples_view c.push_scope.new.found.items) c.loop-scope_group.invariant
    c.in_ok-push_scope.ensures.appended

pub returns-in_err-push_scope-clause-memory : goal.returns-in_err-push_scope-clause-memory
returns-in_err-push_scope-clause-memory g c =
    on-err-always _
    (rw c.deref-scope_group-items.ensures.value at
    (some-part (scope_triples (resource_view c.args.group.now.resource)
    (string_bytes c.args.group.now.schema_url))
    scope_spans_view c.deref-scope_group-items.result.now c.loop-scope_group.scope_group-index
    c.scope_group-item.result c.loop-scope_group-test.true c.scope_group-item.is
    c.in_err-push_scope.ensures.memory))
