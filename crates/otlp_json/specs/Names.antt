-- The names of members, and the fields that they are: a field's name in lowerCamelCase. The numbers
-- and what fields hold are those of the tables of `model_message`. (opentelemetry-proto, "JSON
-- Protobuf Encoding"; Protocol Buffers, "ProtoJSON Format")
use Rattle.std.specs.Prelude.{ℕ, List, codes, bytes_eq, if◌then◌else◌, Option, Some, None}
use Rattle.otlp_json.specs.declared.names.Kind.TheVariants as kinds
use Rattle.otlp_json.specs.declared.names.Leaf.{Leaf}
use Rattle.otlp_json.specs.declared.names.Leaf.TheVariants as leaves
use Rattle.otlp_json.specs.declared.names.Member.{Member}
use Rattle.otlp_json.specs.declared.names.Message.{Message}
use Rattle.otlp_json.specs.declared.names.Message.TheVariants as messages

-- a field that holds no message
abbrev pub one : ℕ → Leaf → Option Member
one n leaf = Some (record { number = n; kind = kinds.One leaf })

-- a field that holds a message
abbrev pub nested : ℕ → Message → Option Member
nested n message = Some (record { number = n; kind = kinds.Nested message })

-- a field that holds a list of messages
abbrev pub each : ℕ → Message → Option Member
each n message = Some (record { number = n; kind = kinds.Each message })

-- (trace_service.proto: ExportTraceServiceRequest)
unfoldable pub request_member : List ℕ → Option Member
request_member name =
    if bytes_eq name (codes "resourceSpans") then each 1 messages.ResourceSpans
    else None

-- (trace.proto: ResourceSpans)
unfoldable pub resource_spans_member : List ℕ → Option Member
resource_spans_member name =
    if bytes_eq name (codes "resource") then nested 1 messages.Resource
    else if bytes_eq name (codes "scopeSpans") then each 2 messages.ScopeSpans
    else if bytes_eq name (codes "schemaUrl") then one 3 leaves.Text
    else None

-- (resource.proto: Resource)
unfoldable pub resource_member : List ℕ → Option Member
resource_member name =
    if bytes_eq name (codes "attributes") then each 1 messages.KeyValue
    else if bytes_eq name (codes "droppedAttributesCount") then one 2 leaves.Uint32
    else None

-- (trace.proto: ScopeSpans)
unfoldable pub scope_spans_member : List ℕ → Option Member
scope_spans_member name =
    if bytes_eq name (codes "scope") then nested 1 messages.Scope
    else if bytes_eq name (codes "spans") then each 2 messages.Span
    else if bytes_eq name (codes "schemaUrl") then one 3 leaves.Text
    else None

-- (common.proto: InstrumentationScope)
unfoldable pub scope_member : List ℕ → Option Member
scope_member name =
    if bytes_eq name (codes "name") then one 1 leaves.Text
    else if bytes_eq name (codes "version") then one 2 leaves.Text
    else if bytes_eq name (codes "attributes") then each 3 messages.KeyValue
    else if bytes_eq name (codes "droppedAttributesCount") then one 4 leaves.Uint32
    else None

-- the other fields of a span (trace.proto: Span)
unfoldable pub more_of_span : List ℕ → Option Member
more_of_span name =
    if bytes_eq name (codes "attributes") then each 9 messages.KeyValue
    else if bytes_eq name (codes "droppedAttributesCount") then one 10 leaves.Uint32
    else if bytes_eq name (codes "events") then each 11 messages.Event
    else if bytes_eq name (codes "droppedEventsCount") then one 12 leaves.Uint32
    else if bytes_eq name (codes "links") then each 13 messages.Link
    else if bytes_eq name (codes "droppedLinksCount") then one 14 leaves.Uint32
    else if bytes_eq name (codes "status") then nested 15 messages.Status
    else if bytes_eq name (codes "flags") then one 16 leaves.Fixed32
    else None

-- the first fields of a span, which say what it is (trace.proto: Span)
unfoldable pub span_member : List ℕ → Option Member
span_member name =
    if bytes_eq name (codes "traceId") then one 1 leaves.Id
    else if bytes_eq name (codes "spanId") then one 2 leaves.Id
    else if bytes_eq name (codes "traceState") then one 3 leaves.Text
    else if bytes_eq name (codes "parentSpanId") then one 4 leaves.Id
    else if bytes_eq name (codes "name") then one 5 leaves.Text
    else if bytes_eq name (codes "kind") then one 6 leaves.Enum
    else if bytes_eq name (codes "startTimeUnixNano") then one 7 leaves.Fixed64
    else if bytes_eq name (codes "endTimeUnixNano") then one 8 leaves.Fixed64
    else more_of_span name

-- (trace.proto: Span.Event)
unfoldable pub event_member : List ℕ → Option Member
event_member name =
    if bytes_eq name (codes "timeUnixNano") then one 1 leaves.Fixed64
    else if bytes_eq name (codes "name") then one 2 leaves.Text
    else if bytes_eq name (codes "attributes") then each 3 messages.KeyValue
    else if bytes_eq name (codes "droppedAttributesCount") then one 4 leaves.Uint32
    else None

-- (trace.proto: Span.Link)
unfoldable pub link_member : List ℕ → Option Member
link_member name =
    if bytes_eq name (codes "traceId") then one 1 leaves.Id
    else if bytes_eq name (codes "spanId") then one 2 leaves.Id
    else if bytes_eq name (codes "traceState") then one 3 leaves.Text
    else if bytes_eq name (codes "attributes") then each 4 messages.KeyValue
    else if bytes_eq name (codes "droppedAttributesCount") then one 5 leaves.Uint32
    else if bytes_eq name (codes "flags") then one 6 leaves.Fixed32
    else None

-- (trace.proto: Status)
unfoldable pub status_member : List ℕ → Option Member
status_member name =
    if bytes_eq name (codes "message") then one 2 leaves.Text
    else if bytes_eq name (codes "code") then one 3 leaves.Enum
    else None

-- (common.proto: KeyValue)
unfoldable pub key_value_member : List ℕ → Option Member
key_value_member name =
    if bytes_eq name (codes "key") then one 1 leaves.Text
    else if bytes_eq name (codes "value") then nested 2 messages.AnyValue
    else None

-- (common.proto: AnyValue)
unfoldable pub any_value_member : List ℕ → Option Member
any_value_member name =
    if bytes_eq name (codes "stringValue") then one 1 leaves.Text
    else if bytes_eq name (codes "boolValue") then one 2 leaves.Bool
    else if bytes_eq name (codes "intValue") then one 3 leaves.Int64
    else if bytes_eq name (codes "doubleValue") then one 4 leaves.Double
    else if bytes_eq name (codes "arrayValue") then nested 5 messages.ArrayValue
    else if bytes_eq name (codes "kvlistValue") then nested 6 messages.KeyValueList
    else if bytes_eq name (codes "bytesValue") then one 7 leaves.Bytes
    else None

-- (common.proto: ArrayValue)
unfoldable pub array_value_member : List ℕ → Option Member
array_value_member name =
    if bytes_eq name (codes "values") then each 1 messages.AnyValue
    else None

-- (common.proto: KeyValueList)
unfoldable pub key_value_list_member : List ℕ → Option Member
key_value_list_member name =
    if bytes_eq name (codes "values") then each 1 messages.KeyValue
    else None

-- the member of this name in an object of the message, if it has one
unfoldable pub member_named : Message → List ℕ → Option Member
member_named messages.Request name = request_member name
member_named messages.ResourceSpans name = resource_spans_member name
member_named messages.Resource name = resource_member name
member_named messages.ScopeSpans name = scope_spans_member name
member_named messages.Scope name = scope_member name
member_named messages.Span name = span_member name
member_named messages.Event name = event_member name
member_named messages.Link name = link_member name
member_named messages.Status name = status_member name
member_named messages.KeyValue name = key_value_member name
member_named messages.AnyValue name = any_value_member name
member_named messages.ArrayValue name = array_value_member name
member_named messages.KeyValueList name = key_value_list_member name
