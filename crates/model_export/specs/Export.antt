-- The OTLP image of a span, and spans grouped under their resources and scopes.
-- opentelemetry-proto: trace.proto, common.proto, resource.proto, trace_service.proto.
use Rattle.std.specs.Prelude.{ℕ, ◌<◌, ◌+◌, if◌then◌else◌, ℤ, pos, List, [], length, map, flat_map}
use Rattle.std.specs.Prelude.{filter, Bool, false, ◌&&◌, Option, Some, None, bytes_eq}
use Rattle.std.specs.Bool.{beq}
use Rattle.std.specs.Ordering.{int_eq}
use lib.Pointwise.{pointwise}
use Rattle.model_message.specs.AnyValue as protocol
use Rattle.model_message.specs.Tables
use Rattle.model_message.specs.Tables.{Message, ◌▸◌}
use Rattle.model_message.specs.Messages.{Triple}
use Rattle.model_message.specs.Canon.{canon}
use Rattle.model_span.specs.Attributes.{Value, text, bool, int, texts, bools, ints, Attribute}
use Rattle.model_span.specs.Attributes.{distinct_of}
use Rattle.model_span.specs.Dropped.{Reason, encode_memory, too_large}
use Rattle.model_span.specs.Spans.{Kind, internal, server, client, producer, consumer, Status}
use Rattle.model_span.specs.Spans.{unset, ok, error, Event, Link, Parent, has_remote_parent, Span}
use Rattle.model_span.specs.Spans.{Resource, Scope, SpanData}

-- ---- in the protocol's messages

-- (common.proto: ArrayValue)
abbrev pub array_of : {A : Type 0} → (A → protocol.AnyValue) → List A → protocol.AnyValue
array_of f xs = protocol.AnyValue.array (protocol.as_values (map f xs))

-- A value in the protocol's kind. The three empty arrays are one. (common.proto: AnyValue)
abbrev pub value_message : Value → protocol.AnyValue
value_message (text t) = protocol.AnyValue.text t
value_message (bool b) = protocol.AnyValue.bool b
value_message (int i) = protocol.AnyValue.int i
value_message (texts ts) = array_of protocol.AnyValue.text ts
value_message (bools bs) = array_of protocol.AnyValue.bool bs
value_message (ints is) = array_of protocol.AnyValue.int is

-- (common.proto: KeyValue)
abbrev pub attribute_message : Attribute → Message Tables.key_value
attribute_message p = p.key ▸ value_message p.value ▸ tt

-- in their order
abbrev pub attribute_messages : List Attribute → List (Message Tables.key_value)
attribute_messages pairs = map attribute_message pairs

-- without dropped attributes (resource.proto: Resource; none are dropped: profile)
abbrev pub resource_message : Resource → Message Tables.resource
resource_message r = attribute_messages r.attributes ▸ 0 ▸ tt

-- likewise (common.proto: InstrumentationScope)
abbrev pub scope_message : Scope → Message Tables.scope
scope_message s = s.name ▸ s.version ▸ attribute_messages s.attributes ▸ 0 ▸ tt

-- (trace.proto: Span.Event)
abbrev pub event_message : Event → Message Tables.event
event_message e = e.at ▸ e.name ▸ attribute_messages e.attributes.items ▸ e.attributes.dropped ▸ tt

-- The flags of a context in bits 0 to 7, that it is known whether it comes from elsewhere in bit 8,
-- and whether it does in bit 9. This is never 0, so flags are always written, though the canon
-- leaves out a number that is 0: that rests on bit 8 alone. (trace.proto: SpanFlags)
abbrev pub flags_number : ℕ → Bool → ℕ
flags_number flags remote = flags + 0x100 + (if remote then 0x200 else 0)

-- with whether its context comes from elsewhere (trace.proto: Span.Link)
abbrev pub link_message : Link → Message Tables.link
link_message l =
    l.context.trace ▸ l.context.span ▸ l.context.state ▸ attribute_messages l.attributes.items ▸
    l.attributes.dropped ▸ flags_number l.context.flags l.context.remote ▸ tt

-- (trace.proto: Status)
abbrev pub status_message : Status → Message Tables.status
status_message unset = [] ▸ pos 0 ▸ tt
status_message ok = [] ▸ pos 1 ▸ tt
status_message (error t) = t ▸ pos 2 ▸ tt

-- never 0, so a kind is always written (trace.proto: Span.SpanKind)
abbrev pub kind_number : Kind → ℤ
kind_number internal = pos 1
kind_number server = pos 2
kind_number client = pos 3
kind_number producer = pos 4
kind_number consumer = pos 5

-- a root has no parent's id (trace.proto: Span)
abbrev pub parent_id : Option Parent → List ℕ
parent_id None = []
parent_id (Some parent) = parent.id

-- with whether its parent comes from elsewhere, which that of a root never does (trace.proto: Span)
abbrev pub span_message : Span → Message Tables.span
span_message s =
    s.context.trace ▸ s.context.span ▸ s.context.state ▸ parent_id s.parent ▸ s.name ▸
    kind_number s.kind ▸ s.start ▸ s.end ▸
    attribute_messages s.attributes.items ▸ s.attributes.dropped ▸
    map event_message s.events.items ▸ s.events.dropped ▸
    map link_message s.links.items ▸ s.links.dropped ▸
    status_message s.status ▸ flags_number s.context.flags (has_remote_parent s.parent) ▸ tt

-- The OTLP image of a span under a resource and a scope, with the schema URL of each.
-- (trace.proto: ResourceSpans, ScopeSpans, Span)
abbrev pub triple_in : Resource → Scope → Span → Triple
triple_in r s x = record {
  resource = resource_message r;
  resource_schema = r.schema;
  scope = scope_message s;
  scope_schema = s.schema;
  span = span_message x;
}

-- that of an ended span, under its own resource and scope
unfoldable pub triple : SpanData → Triple
triple x = triple_in x.resource x.scope x.span

-- ---- equality, by all fields, where attributes in another order make a difference (profile)

abbrev pub value_eq : Value → Value → Bool
value_eq (text t) (text u) = bytes_eq t u
value_eq (bool b) (bool c) = beq b c
value_eq (int i) (int j) = int_eq i j
value_eq (texts ts) (texts us) = pointwise bytes_eq ts us
value_eq (bools bs) (bools cs) = pointwise beq bs cs
value_eq (ints is) (ints js) = pointwise int_eq is js
value_eq _ _ = false

abbrev pub attribute_eq : Attribute → Attribute → Bool
attribute_eq p q = bytes_eq p.key q.key && value_eq p.value q.value

abbrev pub resource_eq : Resource → Resource → Bool
resource_eq r s = pointwise attribute_eq r.attributes s.attributes && bytes_eq r.schema s.schema

abbrev pub scope_eq : Scope → Scope → Bool
scope_eq r s =
    bytes_eq r.name s.name
    && (bytes_eq r.version s.version
    && (pointwise attribute_eq r.attributes s.attributes && bytes_eq r.schema s.schema))

-- ---- groups

-- a key, and what has it
pub record Group (K A : Type 0) : Type 0 where
  pub key : K
  pub items : List A

-- For each distinct key, in order of first occurrence, the items with that key in their order.
-- (profile)
unfoldable pub groups_by : {K A : Type 0} → (K → K → Bool) → (A → K) → List A → List (Group K A)
groups_by same key_of items =
    map (λ k. record { key = k; items = filter (λ x. same k (key_of x)) items })
    (distinct_of same (map key_of items))

-- the spans of a scope
abbrev pub ScopeGroup : Type 0
ScopeGroup = Group Scope SpanData

-- the scopes of a resource, with their spans
abbrev pub ResourceGroup : Type 0
ResourceGroup = Group Resource ScopeGroup

-- Spans by resource, and inside by scope. (trace.proto: ResourceSpans, ScopeSpans; order, and
-- equality by all fields: profile)
unfoldable pub groups : List SpanData → List ResourceGroup
unfolding groups_by
groups spans =
    map (λ g. record { key = g.key; items = groups_by scope_eq (λ x. x.scope) g.items })
    (groups_by resource_eq (λ x. x.resource) spans)

-- the scope, its spans in order, its schema URL (trace.proto: ScopeSpans)
abbrev pub scope_spans_message : ScopeGroup → Message Tables.scope_spans
scope_spans_message g =
    scope_message g.key ▸ map (λ x. span_message x.span) g.items ▸ g.key.schema ▸ tt

-- the resource, its scopes in order, its schema URL (trace.proto: ResourceSpans)
abbrev pub resource_spans_message : ResourceGroup → Message Tables.resource_spans
resource_spans_message g =
    resource_message g.key ▸ map scope_spans_message g.items ▸ g.key.schema ▸ tt

-- the request that carries the groups (trace_service.proto: ExportTraceServiceRequest)
unfoldable pub request_message : List ResourceGroup → Message Tables.request
request_message gs = map resource_spans_message gs ▸ tt

-- how many bytes the request that carries the groups has, as the canon writes it (profile)
unfoldable pub body_length : List ResourceGroup → ℕ
unfolding request_message
body_length gs = length (canon Tables.request (request_message gs))

-- Why these spans have no body: memory was refused, or it would be longer than it may be. (profile)
abbrev pub LacksBody : ℕ → List SpanData → Reason → Type 0
LacksBody max_body spans encode_memory = Unit {0}
LacksBody max_body spans too_large = max_body < body_length (groups spans)
LacksBody max_body spans _ = ⊥

-- the OTLP images of the spans of groups, each under the resource and the scope of its group
unfoldable pub triples_of : List ResourceGroup → List Triple
triples_of gs =
    flat_map (λ g. flat_map (λ h. map (λ x. triple_in g.key h.key x.span) h.items) g.items) gs

-- the OTLP images of the spans, group by group
unfoldable pub grouped_triples : List SpanData → List Triple
unfolding groups triple
grouped_triples spans = flat_map (λ g. flat_map (λ h. map triple h.items) g.items) (groups spans)
