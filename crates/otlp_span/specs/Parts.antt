-- What kinds, limits, resources, scopes, starts, events, links and calls are in the model.
use Rattle.std.specs.Prelude.{Bool, true, false, ℕ, List, [], map, Option, option_map, string_bytes}
use Rattle.std.specs.Arc.{arc_value}
use Rattle.model_span.specs.Spans as model
use Rattle.model_span.specs.Attributes as attributes
use Rattle.otlp_ids.specs.declared.SpanId.{SpanId}
use Rattle.otlp_ids.specs.SpanContext.{context_view}
use Rattle.otlp_value.specs.Value.{value_view, attributes_view}
use Rattle.otlp_span.specs.declared.parts.Kind.{Kind}
use Rattle.otlp_span.specs.declared.parts.Kind.TheVariants as kinds
use Rattle.otlp_span.specs.declared.parts.SpanLimits.{SpanLimits}
use Rattle.otlp_span.specs.declared.parts.Resource.{Resource}
use Rattle.otlp_span.specs.declared.parts.Scope.{Scope}
use Rattle.otlp_span.specs.declared.parts.Open.{Open}
use Rattle.otlp_span.specs.declared.parts.Status.{Status}
use Rattle.otlp_span.specs.declared.parts.Status.TheVariants as statuses
use Rattle.otlp_span.specs.declared.parts.Event.{Event}
use Rattle.otlp_span.specs.declared.parts.Link.{Link}
use Rattle.otlp_span.specs.declared.parts.SpanCall.{SpanCall}
use Rattle.otlp_span.specs.declared.parts.SpanCall.TheVariants as calls

abbrev pub kind_view : Kind → model.Kind
kind_view kinds.Internal = model.internal
kind_view kinds.Server = model.server
kind_view kinds.Client = model.client
kind_view kinds.Producer = model.producer
kind_view kinds.Consumer = model.consumer

abbrev pub limits_view : SpanLimits → model.SpanLimits
limits_view l = record {
  attributes = l.max_attributes_per_span;
  events = l.max_events_per_span;
  links = l.max_links_per_span;
  event_attributes = l.max_attributes_per_event;
  link_attributes = l.max_attributes_per_link;
  value_length = l.max_attribute_value_length;
}

abbrev pub resource_view : {A : Type 0} → Resource A → model.Resource
resource_view r =
    record { attributes = attributes_view r.attributes.items; schema = string_bytes r.schema_url }

abbrev pub scope_view : {A : Type 0} → Scope A → model.Scope
scope_view s = record {
  name = string_bytes s.name;
  version = string_bytes s.version;
  attributes = attributes_view s.attributes.items;
  schema = string_bytes s.schema_url;
}

abbrev pub parent_id_view : Option SpanId → Option (List ℕ)
parent_id_view parent = option_map (λ id. id.0) parent

-- the parent of this identifier, with its remoteness; without an identifier there is none
abbrev pub kept_parent_view : Option SpanId → Bool → Option model.Parent
kept_parent_view parent remote = option_map (λ id. record { id = id.0; remote = remote }) parent

abbrev pub start_view : {A : Type 0} → Open A → model.Start
start_view o = record {
  context = context_view o.context;
  parent = kept_parent_view o.parent o.parent_remote;
  name = string_bytes o.name;
  kind = kind_view o.kind;
  at = o.start;
}

abbrev pub status_view : {A : Type 0} → Status A → model.Status
status_view statuses.Unset = model.unset
status_view statuses.Ok = model.ok
status_view (statuses.Error description) = model.error (string_bytes description)

-- whether the status is Unset
abbrev pub is_unset_status : model.Status → Bool
is_unset_status model.unset = true
is_unset_status model.ok = false
is_unset_status (model.error description) = false

abbrev pub event_view : {A : Type 0} → Event A → model.Event
event_view e = record {
  at = e.timestamp;
  name = string_bytes e.name;
  attributes = record {
    items = attributes_view e.attributes.items;
    dropped = e.dropped_attributes_count;
  };
}

abbrev pub link_view : {A : Type 0} → Link A → model.Link
link_view l = record {
  context = context_view l.span_context;
  attributes = record {
    items = attributes_view l.attributes.items;
    dropped = l.dropped_attributes_count;
  };
}

abbrev pub call_view : {A : Type 0} → SpanCall A → model.Call
call_view (calls.SetAttribute key value) =
    model.set_attribute (record { key = string_bytes key; value = value_view value })
call_view (calls.AddEvent name timestamp pairs) =
    model.add_event (string_bytes name) timestamp (attributes_view pairs.items)
call_view (calls.RecordException kind message stack timestamp pairs) =
    model.record_exception (string_bytes kind) (string_bytes message) (string_bytes stack) timestamp
    (attributes_view pairs.items)
call_view (calls.AddLink context pairs) =
    model.add_link (context_view context) (attributes_view pairs.items)
call_view (calls.SetStatus status) = model.set_status (status_view status)
call_view (calls.UpdateName name) = model.update_name (string_bytes name)
call_view (calls.End at) = model.end at

-- what is where no call was made yet
abbrev pub opened_recording : {A : Type 0} → SpanLimits → Open A → model.SpanRecord
opened_recording limits o = record {
  limits = limits_view limits;
  resource = resource_view (arc_value o.resource);
  scope = scope_view (arc_value o.scope);
  span = model.span (limits_view limits) (start_view o) [];
}

-- the list that the attributes are set in
abbrev pub attributes_of : model.SpanRecord → attributes.AttributeList
attributes_of r = record { limits = model.attribute_limits r.limits; kept = r.span.attributes }

-- the ended span of these calls
abbrev pub replayed_span : {A : Type 0} → SpanLimits → Open A → List (SpanCall A) → model.SpanData
replayed_span limits o made = record {
  resource = resource_view (arc_value o.resource);
  scope = scope_view (arc_value o.scope);
  span = model.span (limits_view limits) (start_view o) (map call_view made);
  ticket = 0;
}
