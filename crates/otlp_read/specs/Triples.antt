-- Spans with what they are under, in the model. (opentelemetry-proto, trace.proto: ResourceSpans,
-- ScopeSpans)
use Rattle.std.specs.Prelude.{List, map}
use Rattle.model_message.specs.Messages as messages
use Rattle.otlp_read.specs.declared.triple.Triple.{Triple}
use Rattle.otlp_read.specs.Resources.{resource_view, scope_view}
use Rattle.otlp_read.specs.Spans.{span_view}

abbrev pub triple_view : {A : Type 0} → Triple A → messages.Triple
triple_view x = record {
  resource = resource_view x.resource.now;
  resource_schema = x.resource_schema_url.now;
  scope = scope_view x.scope.now;
  scope_schema = x.scope_schema_url.now;
  span = span_view x.span.now;
}

-- each of them
abbrev pub triples_view : {A : Type 0} → List (Triple A) → List messages.Triple
triples_view xs = map triple_view xs
