use Rattle.std.proofs.Common.{[]}
use Rattle.model_message.specs.Messages.{resource_triples}
use Rattle.otlp_read.specs.Requests.{resource_spans_view}
use Rattle.otlp_read.specs.Triples.{triples_view}
use Rattle.otlp_read.proofs.TripleSteps.{flat_map-more, on-err-always, some-part}
use Rattle.otlp_read.proofs.request.Request.triples.Goals as goal

pub loop-group-preserved : goal.loop-group-preserved
loop-group-preserved g c =
    flat_map-more resource_triples resource_spans_view c.deref-group-items.result.now
    c.loop-group.group-index c.group-item.result c.loop-group-test.true c.group-item.is
    [] (triples_view c.loop-group.found.items)
    (triples_view c.push_resource.new.found.items) c.loop-group.invariant
    c.in_ok-push_resource.ensures.appended

pub returns-in_err-push_resource-clause-memory : goal.returns-in_err-push_resource-clause-memory
returns-in_err-push_resource-clause-memory g c =
    on-err-always _
    (rw c.deref-group-items.ensures.value at
    (some-part resource_triples resource_spans_view c.deref-group-items.result.now
    c.loop-group.group-index c.group-item.result c.loop-group-test.true c.group-item.is
    c.in_err-push_resource.ensures.memory))
