-- Spans in JSON. (opentelemetry-proto, trace.proto, resource.proto, common.proto; JSON Protobuf
-- Encoding)
use Rattle.std.specs.Prelude.{List, ◌++◌, codes, string_bytes}
use Rattle.std.specs.Arc.{arc_value}
use Rattle.std.specs.List.{flat_map}
use Rattle.otlp_read.specs.declared.resource.InstrumentationScope.{InstrumentationScope}
use Rattle.otlp_read.specs.declared.resource.Resource.{Resource}
use Rattle.otlp_read.specs.declared.span.Event.{Event}
use Rattle.otlp_read.specs.declared.span.Link.{Link}
use Rattle.otlp_read.specs.declared.span.Span.{Span}
use Rattle.otlp_read.specs.declared.span.Status.{Status}
use Rattle.std.specs.declared.sync.Arc.{Arc}
use Rattle.trace_store.specs.declared.span.ViewResource.{ViewResource}
use Rattle.trace_store.specs.declared.span.ViewScope.{ViewScope}
use Rattle.trace_store.specs.declared.span.ViewSpan.{ViewSpan}
use Rattle.otlp_json.specs.Seen.{Seen, array_member, braces, hex_member, long_member, seen}
use Rattle.otlp_json.specs.Seen.{number_member, object_member, signed_member, text_member}
use Rattle.view_json.specs.Values.{attributes_member}

-- (trace.proto: Span.Event)
unfoldable pub event_seen : {A : Type 0} → Event A → List Seen
event_seen event = braces (seen (long_member (codes "timeUnixNano") event.time_unix_nano)
    ++ seen (text_member (codes "name") (string_bytes event.name))
    ++ attributes_member event.attributes.items
    ++ seen (number_member (codes "droppedAttributesCount") event.dropped_attributes_count))

-- which span a link is to
unfoldable pub target_members : {A : Type 0} → Link A → List Seen
target_members link = seen (hex_member (codes "traceId") link.trace_id.items)
    ++ seen (hex_member (codes "spanId") link.span_id.items)
    ++ seen (text_member (codes "traceState") (string_bytes link.trace_state))

-- (trace.proto: Span.Link)
unfoldable pub link_seen : {A : Type 0} → Link A → List Seen
link_seen link = braces (target_members link
    ++ attributes_member link.attributes.items
    ++ seen (number_member (codes "droppedAttributesCount") link.dropped_attributes_count)
    ++ seen (number_member (codes "flags") link.flags))

-- the status of a span (trace.proto: Status)
unfoldable pub status_member : {A : Type 0} → Status A → List Seen
status_member status = object_member (codes "status")
    (seen (text_member (codes "message") (string_bytes status.message))
    ++ seen (signed_member (codes "code") status.code))

-- what says which span it is
unfoldable pub identity_members : {A : Type 0} → Span A → List Seen
identity_members span = seen (hex_member (codes "traceId") span.trace_id.items)
    ++ seen (hex_member (codes "spanId") span.span_id.items)
    ++ seen (text_member (codes "traceState") (string_bytes span.trace_state))
    ++ seen (hex_member (codes "parentSpanId") span.parent_span_id.items)
    ++ seen (number_member (codes "flags") span.flags)

-- what it did, and when
unfoldable pub work_members : {A : Type 0} → Span A → List Seen
work_members span = seen (text_member (codes "name") (string_bytes span.name))
    ++ seen (signed_member (codes "kind") span.kind)
    ++ seen (long_member (codes "startTimeUnixNano") span.start_time_unix_nano)
    ++ seen (long_member (codes "endTimeUnixNano") span.end_time_unix_nano)

-- its attributes
unfoldable pub attribute_members : {A : Type 0} → Span A → List Seen
attribute_members span = attributes_member span.attributes.items
    ++ seen (number_member (codes "droppedAttributesCount") span.dropped_attributes_count)

-- its events
unfoldable pub event_members : {A : Type 0} → Span A → List Seen
event_members span = array_member (codes "events") (flat_map event_seen span.events.items)
    ++ seen (number_member (codes "droppedEventsCount") span.dropped_events_count)

-- its links
unfoldable pub link_members : {A : Type 0} → Span A → List Seen
link_members span = array_member (codes "links") (flat_map link_seen span.links.items)
    ++ seen (number_member (codes "droppedLinksCount") span.dropped_links_count)

-- all of these
unfoldable pub detail_members : {A : Type 0} → Span A → List Seen
detail_members span = attribute_members span ++ event_members span ++ link_members span

-- (trace.proto: Span)
unfoldable pub span_seen : {A : Type 0} → Span A → List Seen
span_seen span = braces (identity_members span ++ work_members span ++ detail_members span
    ++ status_member span.status)

-- (resource.proto: Resource)
unfoldable pub resource_member : {A : Type 0} → Resource A → List Seen
resource_member resource = object_member (codes "resource")
    (attributes_member resource.attributes.items
    ++ seen (number_member (codes "droppedAttributesCount") resource.dropped_attributes_count))

-- (common.proto: InstrumentationScope)
unfoldable pub scope_member : {A : Type 0} → InstrumentationScope A → List Seen
scope_member scope = object_member (codes "scope")
    (seen (text_member (codes "name") (string_bytes scope.name))
    ++ seen (text_member (codes "version") (string_bytes scope.version))
    ++ attributes_member scope.attributes.items
    ++ seen (number_member (codes "droppedAttributesCount") scope.dropped_attributes_count))

-- a scope, with one span of it (trace.proto: ScopeSpans)
unfoldable pub scope_spans_seen : {A : Type 0} → ViewScope A → Span A → List Seen
scope_spans_seen scope span = braces (scope_member scope.scope
    ++ array_member (codes "spans") (span_seen span)
    ++ seen (text_member (codes "schemaUrl") (string_bytes scope.schema_url)))

-- a resource, with one span in one of its scopes (trace.proto: ResourceSpans)
unfoldable pub resource_spans_seen : {A : Type 0} → ViewResource A → ViewScope A → Span A
    → List Seen
resource_spans_seen resource scope span = braces (resource_member resource.resource
    ++ array_member (codes "scopeSpans") (scope_spans_seen scope span)
    ++ seen (text_member (codes "schemaUrl") (string_bytes resource.schema_url)))

-- a span, under its resource and its scope
abbrev pub kept_seen : {A : Type 0} → Arc (ViewSpan A) A → List Seen
kept_seen kept = resource_spans_seen (arc_value (arc_value kept).resource)
    (arc_value (arc_value kept).scope) (arc_value kept).span

-- the spans of a trace, one after another (trace_service.proto: ExportTraceServiceRequest)
abbrev pub trace_seen : {A : Type 0} → List (Arc (ViewSpan A) A) → List Seen
trace_seen spans = braces (array_member (codes "resourceSpans") (flat_map kept_seen spans))
