-- Spans as received in the model, and what was gathered of their fields. (opentelemetry-proto)
use Rattle.std.specs.Prelude.{List, map, string_bytes}
use Rattle.model_message.specs.Tables
use Rattle.model_message.specs.Tables.{Message, ◌▸◌}
use Rattle.otlp_read.specs.declared.span.Status.{Status}
use Rattle.otlp_read.specs.declared.span.Event.{Event}
use Rattle.otlp_read.specs.declared.span.Link.{Link}
use Rattle.otlp_read.specs.declared.span.Span.{Span}
use Rattle.otlp_read.specs.declared.span.StatusParts.{StatusParts}
use Rattle.otlp_read.specs.declared.span.EventParts.{EventParts}
use Rattle.otlp_read.specs.declared.span.LinkParts.{LinkParts}
use Rattle.otlp_read.specs.declared.span.SpanParts.{SpanParts}
use Rattle.otlp_wire.specs.Gathering.{Gathered}
use Rattle.otlp_read.specs.Values.{pairs_view}

-- (trace.proto: Status)
abbrev pub status_view : {A : Type 0} → Status A → Message Tables.status
status_view x =
    string_bytes x.message ▸ x.code ▸ tt

-- what was gathered of its fields
abbrev pub status_gathered : {A : Type 0} → StatusParts A → Gathered Tables.status
status_gathered x =
    x.message.now ▸ x.code ▸ tt

-- (trace.proto: Span.Event)
abbrev pub event_view : {A : Type 0} → Event A → Message Tables.event
event_view x =
    x.time_unix_nano ▸ string_bytes x.name ▸ pairs_view x.attributes.items ▸
    x.dropped_attributes_count ▸ tt

-- each of them
abbrev pub events_view : {A : Type 0} → List (Event A) → List (Message Tables.event)
events_view xs = map event_view xs

-- what was gathered of its fields
abbrev pub event_gathered : {A : Type 0} → EventParts A → Gathered Tables.event
event_gathered x =
    x.time_unix_nano ▸ x.name.now ▸ pairs_view x.attributes.items ▸ x.dropped_attributes_count ▸ tt

-- (trace.proto: Span.Link)
abbrev pub link_view : {A : Type 0} → Link A → Message Tables.link
link_view x =
    x.trace_id.items ▸ x.span_id.items ▸ string_bytes x.trace_state ▸
    pairs_view x.attributes.items ▸ x.dropped_attributes_count ▸ x.flags ▸ tt

-- each of them
abbrev pub links_view : {A : Type 0} → List (Link A) → List (Message Tables.link)
links_view xs = map link_view xs

-- what was gathered of its fields
abbrev pub link_gathered : {A : Type 0} → LinkParts A → Gathered Tables.link
link_gathered x =
    x.trace_id.now ▸ x.span_id.now ▸ x.trace_state.now ▸ pairs_view x.attributes.items ▸
    x.dropped_attributes_count ▸ x.flags ▸ tt

-- (trace.proto: Span)
abbrev pub span_view : {A : Type 0} → Span A → Message Tables.span
span_view x =
    x.trace_id.items ▸ x.span_id.items ▸ string_bytes x.trace_state ▸ x.parent_span_id.items ▸
    string_bytes x.name ▸ x.kind ▸ x.start_time_unix_nano ▸ x.end_time_unix_nano ▸
    pairs_view x.attributes.items ▸ x.dropped_attributes_count ▸ events_view x.events.items ▸
    x.dropped_events_count ▸ links_view x.links.items ▸ x.dropped_links_count ▸
    status_view x.status ▸ x.flags ▸ tt

-- each of them
abbrev pub spans_view : {A : Type 0} → List (Span A) → List (Message Tables.span)
spans_view xs = map span_view xs

-- what was gathered of its fields
abbrev pub span_gathered : {A : Type 0} → SpanParts A → Gathered Tables.span
span_gathered x =
    x.trace_id.now ▸ x.span_id.now ▸ x.trace_state.now ▸ x.parent_span_id.now ▸ x.name.now ▸
    x.kind ▸ x.start_time_unix_nano ▸ x.end_time_unix_nano ▸ pairs_view x.attributes.items ▸
    x.dropped_attributes_count ▸ events_view x.events.items ▸ x.dropped_events_count ▸
    links_view x.links.items ▸ x.dropped_links_count ▸ status_gathered x.status ▸ x.flags ▸ tt
