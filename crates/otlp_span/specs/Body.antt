-- What the body of a span is in the model.
use Rattle.std.specs.Prelude.{◌≡◌, ℕ, is_some, map, string_bytes, true}
use Rattle.std.specs.Arc.{arc_value}
use Rattle.model_span.specs.Attributes.{Kept}
use Rattle.model_span.specs.Spans as model
use Rattle.otlp_ids.specs.SpanContext.{context_view}
use Rattle.otlp_span.specs.declared.body.SpanBody.{SpanBody}
use Rattle.otlp_span.specs.Parts.{event_view, kind_view, limits_view, link_view, resource_view}
use Rattle.otlp_span.specs.Parts.{scope_view, kept_parent_view, status_view}

-- what is kept, each item in the model
abbrev pub kept_view : {T M : Type 0} → (T → M) → Kept T → Kept M
kept_view view kept = record { items = map view kept.items; dropped = kept.dropped }

abbrev pub span_view : {A : Type 0} → SpanBody A → model.Span
span_view b = record {
  context = context_view b.context;
  parent = kept_parent_view b.parent b.parent_remote;
  name = string_bytes b.name;
  kind = kind_view b.kind;
  start = b.start;
  end = b.end;
  attributes = b.attributes.kept;
  events = kept_view event_view b.events;
  links = kept_view link_view b.links;
  status = status_view b.status;
}

-- the body of a span that has ended, with its ticket
abbrev pub ended_view : {A : Type 0} → ℕ → SpanBody A → model.SpanData
ended_view ticket b = record {
  resource = resource_view (arc_value b.resource);
  scope = scope_view (arc_value b.scope);
  span = span_view b;
  ticket = ticket;
}

abbrev pub recording_view : {A : Type 0} → SpanBody A → model.SpanRecord
recording_view b = record {
  limits = limits_view b.limits;
  resource = resource_view (arc_value b.resource);
  scope = scope_view (arc_value b.scope);
  span = span_view b;
}

-- the attributes are kept under the limits of the span
abbrev pub IsLimited : {A : Type 0} → SpanBody A → Type 0
IsLimited b = b.attributes.limits ≡ model.attribute_limits (limits_view b.limits)

-- the memory in which the span is named is still there
abbrev pub HasSlip : {A : Type 0} → SpanBody A → Type 0
HasSlip b = is_some b.slip ≡ true
