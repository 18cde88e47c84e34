-- The messages of a trace export, by name, for what is said of their members in other crates.
-- (opentelemetry-proto)
use Rattle.otlp_json.specs.declared.names.Message.{Message}
use Rattle.otlp_json.specs.declared.names.Message.TheVariants as messages

abbrev pub AnyMessage : Type 0
AnyMessage = Message

abbrev pub request : Message
request = messages.Request

abbrev pub resource_spans : Message
resource_spans = messages.ResourceSpans

abbrev pub resource : Message
resource = messages.Resource

abbrev pub scope_spans : Message
scope_spans = messages.ScopeSpans

abbrev pub scope : Message
scope = messages.Scope

abbrev pub span : Message
span = messages.Span

abbrev pub event : Message
event = messages.Event

abbrev pub link : Message
link = messages.Link

abbrev pub status : Message
status = messages.Status

abbrev pub key_value : Message
key_value = messages.KeyValue

abbrev pub any_value : Message
any_value = messages.AnyValue

abbrev pub array_value : Message
array_value = messages.ArrayValue

abbrev pub key_value_list : Message
key_value_list = messages.KeyValueList
