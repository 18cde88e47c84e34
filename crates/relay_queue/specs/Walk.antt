-- The names of the spans of a request, by the fields of its messages, one after the other.
-- (opentelemetry-proto, trace_service.proto, trace.proto)
use Rattle.std.specs.Prelude.{List, map, flat_map}
use Rattle.model_message.specs.Wire.{Field, row}
use Rattle.model_message.specs.Tables
use Rattle.model_message.specs.Tables.{bytes, message, repeated}
use Rattle.model_message.specs.Messages.{bytes_in, last_bytes, payloads}
use Rattle.model_desk.specs.Retries.{Fate}
use Rattle.model_body.specs.Names.{LostSpan}
use Rattle.relay_queue.specs.Named.{lost_span}

-- the name of the span of these fields (trace.proto: Span)
abbrev pub span_name : Fate → List Field → LostSpan
span_name fate fields =
    lost_span (last_bytes (payloads 1 bytes fields)) (last_bytes (payloads 2 bytes fields)) fate

-- those of the spans of a scope (trace.proto: ScopeSpans)
abbrev pub scope_names : Fate → List Field → List LostSpan
scope_names fate fields =
    map (λ p. span_name fate (row (bytes_in p)).value)
    (payloads 2 (repeated (message Tables.span)) fields)

-- those of the spans of a resource (trace.proto: ResourceSpans)
abbrev pub resource_names : Fate → List Field → List LostSpan
resource_names fate fields =
    flat_map (λ p. scope_names fate (row (bytes_in p)).value)
    (payloads 2 (repeated (message Tables.scope_spans)) fields)

-- those of the spans of a request (trace_service.proto: ExportTraceServiceRequest)
abbrev pub request_names : Fate → List Field → List LostSpan
request_names fate fields =
    flat_map (λ p. resource_names fate (row (bytes_in p)).value)
    (payloads 1 (repeated (message Tables.resource_spans)) fields)
