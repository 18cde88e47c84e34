-- How many bytes a span takes.
use Rattle.std.specs.Prelude.{ℕ, ◌+◌, String, string_len, sum, sum_by, vec_len}
use Rattle.otlp_read.specs.declared.any_value.AnyValue.{AnyValue, fold-AnyValue}
use Rattle.otlp_read.specs.declared.any_value.AnyValue.TheOpen.{AnyValue-F}
use Rattle.otlp_read.specs.declared.span.Event.{Event}
use Rattle.otlp_read.specs.declared.span.Link.{Link}
use Rattle.otlp_read.specs.declared.span.Span.{Span}
use Rattle.trace_store.specs.declared.span.ViewResource.{ViewResource}
use Rattle.trace_store.specs.declared.span.ViewScope.{ViewScope}

-- a key, and a value that takes this many bytes
abbrev pub pair_step : {A : Type 0} → String A × ℕ → ℕ
pair_step pair = 64 + string_len pair.0 + pair.1

-- one level of a value, where each value inside takes this many bytes
abbrev pub value_step : {A : Type 0} → AnyValue-F A ℕ → ℕ
value_step AnyValue-F.Empty = 48
value_step (AnyValue-F.Text t) = 48 + string_len t
value_step (AnyValue-F.Bool b) = 48
value_step (AnyValue-F.Int i) = 48
value_step (AnyValue-F.Double d) = 48
value_step (AnyValue-F.Array v) = 48 + sum v.items
value_step (AnyValue-F.Pairs v) = 48 + sum_by pair_step v.items
value_step (AnyValue-F.Bytes b) = 48 + vec_len b

-- A value: 48 bytes, and those of its text, its bytes or the values in it. (profile)
abbrev pub value_bytes : {A : Type 0} → AnyValue A → ℕ
value_bytes {A} = fold-AnyValue A ℕ value_step

-- A pair: 64 bytes, and those of its key and its value. (profile)
abbrev pub pair_bytes : {A : Type 0} → String A × AnyValue A → ℕ
pair_bytes pair = 64 + string_len pair.0 + value_bytes pair.1

-- An event: 128 bytes, and those of its name and its attributes. (profile)
abbrev pub event_bytes : {A : Type 0} → Event A → ℕ
event_bytes event = 128 + string_len event.name + sum_by pair_bytes event.attributes.items

-- A link: 192 bytes, and those of its identifiers, its state and its attributes. (profile)
abbrev pub link_bytes : {A : Type 0} → Link A → ℕ
link_bytes link = 192 + vec_len link.trace_id + vec_len link.span_id + string_len link.trace_state
    + sum_by pair_bytes link.attributes.items

-- the identifiers and the texts of a span
abbrev pub texts_bytes : {A : Type 0} → Span A → ℕ
texts_bytes span = vec_len span.trace_id + vec_len span.span_id + string_len span.trace_state
    + vec_len span.parent_span_id + string_len span.name + string_len span.status.message

-- A resource: 256 bytes, and those of its attributes and its schema URL. (profile)
abbrev pub resource_bytes : {A : Type 0} → ViewResource A → ℕ
resource_bytes r = 256 + string_len r.schema_url + sum_by pair_bytes r.resource.attributes.items

-- A scope: 256 bytes, and those of its name, its version, its attributes and its schema URL.
-- (profile)
abbrev pub scope_bytes : {A : Type 0} → ViewScope A → ℕ
scope_bytes s = 256 + string_len s.scope.name + string_len s.scope.version
    + string_len s.schema_url + sum_by pair_bytes s.scope.attributes.items

-- A span: 768 bytes, for itself and its places in lists, and those of its identifiers, texts,
-- attributes, events and links. (profile)
abbrev pub span_bytes : {A : Type 0} → Span A → ℕ
span_bytes span = 768 + texts_bytes span + sum_by pair_bytes span.attributes.items
    + sum_by event_bytes span.events.items + sum_by link_bytes span.links.items
