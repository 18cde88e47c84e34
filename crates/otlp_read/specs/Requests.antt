-- Requests as received in the model, and what was gathered of their fields. (opentelemetry-proto)
use Rattle.std.specs.Prelude.{List, map, string_bytes}
use Rattle.model_message.specs.Tables
use Rattle.model_message.specs.Tables.{Message, ◌▸◌}
use Rattle.otlp_read.specs.declared.request.ScopeSpans.{ScopeSpans}
use Rattle.otlp_read.specs.declared.request.ResourceSpans.{ResourceSpans}
use Rattle.otlp_read.specs.declared.request.Request.{Request}
use Rattle.otlp_read.specs.declared.request.ScopeSpansParts.{ScopeSpansParts}
use Rattle.otlp_read.specs.declared.request.ResourceSpansParts.{ResourceSpansParts}
use Rattle.otlp_read.specs.declared.request.RequestParts.{RequestParts}
use Rattle.otlp_wire.specs.Gathering.{Gathered}
use Rattle.otlp_read.specs.Resources.{resource_view, resource_gathered, scope_view, scope_gathered}
use Rattle.otlp_read.specs.Spans.{spans_view}

-- (trace.proto: ScopeSpans)
abbrev pub scope_spans_view : {A : Type 0} → ScopeSpans A → Message Tables.scope_spans
scope_spans_view x =
    scope_view x.scope ▸ spans_view x.spans.items ▸ string_bytes x.schema_url ▸ tt

-- each of them
abbrev pub scope_groups_view : {A : Type 0} → List (ScopeSpans A)
    → List (Message Tables.scope_spans)
scope_groups_view xs = map scope_spans_view xs

-- what was gathered of its fields
abbrev pub scope_spans_gathered : {A : Type 0} → ScopeSpansParts A → Gathered Tables.scope_spans
scope_spans_gathered x =
    scope_gathered x.scope ▸ spans_view x.spans.items ▸ x.schema_url.now ▸ tt

-- (trace.proto: ResourceSpans)
abbrev pub resource_spans_view : {A : Type 0} → ResourceSpans A → Message Tables.resource_spans
resource_spans_view x =
    resource_view x.resource ▸ scope_groups_view x.scope_spans.items
    ▸ string_bytes x.schema_url ▸ tt

-- each of them
abbrev pub resource_groups_view : {A : Type 0} → List (ResourceSpans A)
    → List (Message Tables.resource_spans)
resource_groups_view xs = map resource_spans_view xs

-- what was gathered of its fields
abbrev pub resource_spans_gathered : {A : Type 0} → ResourceSpansParts A
    → Gathered Tables.resource_spans
resource_spans_gathered x =
    resource_gathered x.resource ▸ scope_groups_view x.scope_spans.items ▸ x.schema_url.now ▸ tt

-- (trace_service.proto: ExportTraceServiceRequest)
abbrev pub request_view : {A : Type 0} → Request A → Message Tables.request
request_view x =
    resource_groups_view x.resource_spans.items ▸ tt

-- what was gathered of its fields
abbrev pub request_gathered : {A : Type 0} → RequestParts A → Gathered Tables.request
request_gathered x =
    resource_groups_view x.resource_spans.items ▸ tt
