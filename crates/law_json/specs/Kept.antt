-- A span as it is kept, in the model. (opentelemetry-proto, trace.proto: ResourceSpans, ScopeSpans)
use Rattle.std.specs.Prelude.{string_bytes}
use Rattle.std.specs.Arc.{arc_value}
use Rattle.std.specs.declared.sync.Arc.{Arc}
use Rattle.model_message.specs.Messages.{Triple}
use Rattle.otlp_read.specs.Resources.{resource_view, scope_view}
use Rattle.otlp_read.specs.Spans.{span_view}
use Rattle.trace_store.specs.declared.span.ViewSpan.{ViewSpan}

-- a span, with its resource and its scope
abbrev pub kept_triple : {A : Type 0} → Arc (ViewSpan A) A → Triple
kept_triple kept = record {
  resource = resource_view (arc_value (arc_value kept).resource).resource;
  resource_schema = string_bytes (arc_value (arc_value kept).resource).schema_url;
  scope = scope_view (arc_value (arc_value kept).scope).scope;
  scope_schema = string_bytes (arc_value (arc_value kept).scope).schema_url;
  span = span_view (arc_value kept).span;
}
