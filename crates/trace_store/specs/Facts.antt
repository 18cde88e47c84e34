-- What is said of a span: its service, whether it is an error, and when it ended.
use Rattle.std.specs.Prelude.{ℕ, max, Bool, false, ◌==◌, if◌then◌else◌, ℤ, pos, negsuc, length}
use Rattle.std.specs.Prelude.{Option, Some, None, unwrap_or, List, [], ◌∷◌, String, codes}
use Rattle.std.specs.Prelude.{string_bytes}
use Rattle.std.specs.Arc.{arc_value}
use Rattle.std.specs.Str.{bytes_eq}
use Rattle.model_message.specs.AnyValue.{AnyValue}
use Rattle.otlp_read.specs.declared.any_value.AnyValue.{AnyValue as Received}
use Rattle.otlp_read.specs.Values.{any_value_view}
use Rattle.otlp_read.specs.declared.span.Span.{Span}
use Rattle.trace_store.specs.declared.span.ViewSpan.{ViewSpan}

-- the text of a value, if it is one
abbrev pub text_in : AnyValue → Option (List ℕ)
text_in (AnyValue.text t) = Some t
text_in _ = None

-- the name of the service, if this attribute says it (OpenTelemetry semantic conventions,
-- "Service")
abbrev pub service_value : {A : Type 0} → String A × Received A → Option (List ℕ)
service_value p =
    if bytes_eq (string_bytes p.0) (codes "service.name") then text_in (any_value_view p.1)
    else None

-- the name of the service that the first attribute says
unfoldable pub service_in : {A : Type 0} → List (String A × Received A) → List ℕ
service_in [] = codes "unknown_service"
service_in (p ∷ ps) = unwrap_or (service_value p) (service_in ps)

-- the service that made a span, by the attributes of its resource
abbrev pub service_of : {A : Type 0} → ViewSpan A → List ℕ
service_of span = service_in (arc_value span.resource).resource.attributes.items

-- whether a status of this code is an error (opentelemetry-proto, trace.proto: Status)
abbrev pub is_error_code : ℤ → Bool
is_error_code (pos code) = code == 2
is_error_code (negsuc n) = false

-- whether a span's status is an error
abbrev pub is_error : {A : Type 0} → Span A → Bool
is_error span = is_error_code span.status.code

-- its end, or its start where that is later
abbrev pub end_of : {A : Type 0} → Span A → ℕ
end_of span = max span.start_time_unix_nano span.end_time_unix_nano

-- whether it names no parent
abbrev pub names_none : {A : Type 0} → Span A → Bool
names_none span = length span.parent_span_id.items == 0
