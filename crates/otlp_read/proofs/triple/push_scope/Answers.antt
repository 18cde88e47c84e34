use Rattle.std.proofs.Common.{string_bytes}
use Rattle.model_message.specs.Messages.{Triple}
use Rattle.model_message.specs.Tables
use Rattle.model_message.specs.Tables.{Message}
use Rattle.otlp_read.specs.Resources.{resource_view, scope_view}
use Rattle.otlp_read.specs.Spans.{span_view}
use Rattle.otlp_read.specs.Triples.{triple_view, triples_view}
use Rattle.otlp_read.proofs.TripleSteps.{map-more, map-pushed, on-err-always, some-mapped}
use Rattle.otlp_read.proofs.triple.push_scope.Goals as goal

pub loop-span-preserved : goal.loop-span-preserved
loop-span-preserved g c =
    let triple : Message Tables.span → Triple = λ x. record {
      resource = resource_view c.args.group.now.resource;
      resource_schema = string_bytes c.args.group.now.schema_url;
      scope = scope_view c.args.scope_group.now.scope;
      scope_schema = string_bytes c.args.scope_group.now.schema_url;
      span = x;
    } in
    let pushed =
    rw (c.deref.ensures, c.deref-in-loop-span.ensures) at
    (map-pushed triple_view c.loop-span.found.items c.push.new.self.items _
    c.in_ok-push.ensures.items) in
    map-more triple span_view c.deref-span-items.result.now c.loop-span.span-index
    c.span-item.result c.loop-span-test.true c.span-item.is
    (triples_view c.args.found.now.items) (triples_view c.loop-span.found.items)
    (triples_view c.push.new.self.items) c.loop-span.invariant pushed

pub returns-in_err-push-clause-memory : goal.returns-in_err-push-clause-memory
returns-in_err-push-clause-memory g c =
    let triple : Message Tables.span → Triple = λ x. record {
      resource = resource_view c.args.group.now.resource;
      resource_schema = string_bytes c.args.group.now.schema_url;
      scope = scope_view c.args.scope_group.now.scope;
      scope_schema = string_bytes c.args.scope_group.now.schema_url;
      span = x;
    } in
    on-err-always _
    (rw c.deref-span-items.ensures.value at
    (some-mapped triple span_view c.deref-span-items.result.now c.loop-span.span-index
    c.loop-span-test.true))
