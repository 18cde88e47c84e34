-- What the variables set, one by one. (OpenTelemetry Specification, Environment Variable
-- Specification; OTLP Specification, OTLP Exporter Configuration; Semantic Conventions,
-- http.request.method)
use Rattle.std.specs.Prelude.{ℕ, ◌-◌, ◌^◌, ◌==◌, min, Bool, false, List, ◌++◌, Option, unwrap_or}
use Rattle.std.specs.Prelude.{if◌then◌else◌}
use Rattle.std.specs.Option.{option_or}
use Rattle.model_span.specs.Attributes.{Attribute}
use Rattle.model_span.specs.Spans as spans
use Rattle.model_desk.specs.Desks as desks
use Rattle.otel_settings.specs.declared.variable.Variable.{Variable}
use Rattle.otel_settings.specs.declared.variable.Variable.TheVariants as variables
use Rattle.otel_settings.specs.declared.fault.Instead.{Instead}
use Rattle.otel_settings.specs.declared.fault.Instead.TheVariants as instead
use Rattle.otlp_http.specs.Address.{Address}
use Rattle.otlp_http.specs.declared.request.Coding.{Coding}
use Rattle.otel_settings.specs.Codings.{coding_of}
use Rattle.otel_settings.specs.declared.sampler.NamedSampler.{NamedSampler}
use Rattle.otel_settings.specs.Samplers.{sampler_of, sampler_faults}
use Rattle.otel_settings.specs.Resources.{resource_of, resource_faults}
use Rattle.otel_settings.specs.Endpoints.{target_of, target_faults}
use Rattle.otel_settings.specs.Headers.{headers_of, header_faults, with_fields}
use Rattle.otel_settings.specs.Methods.{methods_of, methods_faults}
use Rattle.otel_settings.specs.Unsupported.{unsupported_faults}
use Rattle.otel_settings.specs.Pairs.{Pairs, text_set}
use Rattle.otel_settings.specs.Readings.{boolean, number_in}
use Rattle.otel_settings.specs.Faults.{Fault, read_by, faults_by}

-- ---- numbers

-- the number that a variable is set to, from the least to the most
abbrev pub number_of : ℕ → ℕ → Variable → Pairs → Option ℕ
number_of least most variable pairs = read_by (number_in least most) (text_set variable pairs)

-- the fault of such a number
abbrev pub number_faults : ℕ → ℕ → Variable → Instead → Pairs → List Fault
number_faults least most variable other pairs =
    faults_by (number_in least most) variable other (text_set variable pairs)

-- the greatest number that a setting has (profile)
abbrev pub most_of_all : ℕ
most_of_all = 2 ^ 32 - 1

-- ---- the queue (Batch Span Processor)

-- 5000 milliseconds by default
abbrev pub delay_of : Pairs → ℕ
delay_of pairs = unwrap_or (number_of 0 most_of_all variables.BspScheduleDelay pairs) 5000

-- 2048 spans by default, and 65,536 at most (the greatest: profile)
abbrev pub queue_of : Pairs → ℕ
queue_of pairs = unwrap_or (number_of 1 65536 variables.BspMaxQueueSize pairs) 2048

-- 512 spans by default, and never more than the queue holds
abbrev pub default_batch : Pairs → ℕ
default_batch pairs = min (queue_of pairs) 512

abbrev pub batch_of : Pairs → ℕ
batch_of pairs =
    unwrap_or (number_of 1 (queue_of pairs) variables.BspMaxExportBatchSize pairs)
    (default_batch pairs)

unfoldable pub desk_of : Pairs → desks.DeskConfig
desk_of pairs =
    record { queue = queue_of pairs; batch = batch_of pairs; delay_ms = delay_of pairs }

-- the faults before it, and then its own
unfoldable pub desk_faults : List Fault → Pairs → List Fault
desk_faults before pairs =
    before
    ++ number_faults 0 most_of_all variables.BspScheduleDelay (instead.Number 5000) pairs
    ++ number_faults 1 65536 variables.BspMaxQueueSize (instead.Number 2048) pairs
    ++ number_faults 1 (queue_of pairs) variables.BspMaxExportBatchSize
    (instead.Number (default_batch pairs)) pairs

-- ---- what a span keeps (Attribute Limits, Span Limits)

-- a count, 128 by default
abbrev pub count_of : Variable → Pairs → ℕ
count_of variable pairs = unwrap_or (number_of 0 most_of_all variable pairs) 128

abbrev pub count_faults : Variable → Pairs → List Fault
count_faults variable pairs = number_faults 0 most_of_all variable (instead.Number 128) pairs

-- a limit of spans where it is set, and the one of all attributes where it isn't (Common, Attribute
-- Limits)
abbrev pub span_or_general : Variable → Variable → Pairs → Option ℕ
span_or_general span general pairs =
    option_or (number_of 0 most_of_all span pairs) (number_of 0 most_of_all general pairs)

abbrev pub span_faults : Variable → Variable → Pairs → List Fault
span_faults span general pairs =
    number_faults 0 most_of_all span (instead.Variable general) pairs

unfoldable pub limits_of : Pairs → spans.SpanLimits
limits_of pairs = record {
  attributes = unwrap_or (span_or_general variables.SpanAttributeCountLimit
      variables.AttributeCountLimit pairs) 128;
  events = count_of variables.SpanEventCountLimit pairs;
  links = count_of variables.SpanLinkCountLimit pairs;
  event_attributes = count_of variables.EventAttributeCountLimit pairs;
  link_attributes = count_of variables.LinkAttributeCountLimit pairs;
  value_length = span_or_general variables.SpanAttributeValueLengthLimit
      variables.AttributeValueLengthLimit pairs;
}

-- the faults before it, and then its own
unfoldable pub limit_faults : List Fault → Pairs → List Fault
limit_faults before pairs =
    before
    ++ number_faults 0 most_of_all variables.AttributeValueLengthLimit instead.NoLimit pairs
    ++ count_faults variables.AttributeCountLimit pairs
    ++ span_faults variables.SpanAttributeValueLengthLimit variables.AttributeValueLengthLimit pairs
    ++ span_faults variables.SpanAttributeCountLimit variables.AttributeCountLimit pairs
    ++ count_faults variables.SpanEventCountLimit pairs
    ++ count_faults variables.SpanLinkCountLimit pairs
    ++ count_faults variables.EventAttributeCountLimit pairs
    ++ count_faults variables.LinkAttributeCountLimit pairs

-- ---- timeouts, in milliseconds; 0 is no limit (Timeout)

-- 30 seconds by default (Batch Span Processor)
abbrev pub export_timeout_of : Pairs → ℕ
export_timeout_of pairs =
    unwrap_or (number_of 0 most_of_all variables.BspExportTimeout pairs) 30000

-- that of traces where it is set, and the one of all signals where it isn't; 10 seconds by default
-- (OTLP Exporter Configuration)
abbrev pub timeout_of : Pairs → ℕ
timeout_of pairs =
    unwrap_or (span_or_general variables.OtlpTracesTimeout variables.OtlpTimeout pairs) 10000

-- the timeout for what has no 'no limit': the greatest number in its place (profile)
abbrev pub request_timeout : ℕ → ℕ
request_timeout timeout = if timeout == 0 then most_of_all else timeout

abbrev pub export_timeout_faults : List Fault → Pairs → List Fault
export_timeout_faults before pairs =
    before ++ number_faults 0 most_of_all variables.BspExportTimeout (instead.Number 30000) pairs

abbrev pub timeout_faults : List Fault → Pairs → List Fault
timeout_faults before pairs =
    before
    ++ number_faults 0 most_of_all variables.OtlpTimeout (instead.Number 10000) pairs
    ++ span_faults variables.OtlpTracesTimeout variables.OtlpTimeout pairs

-- ---- all

-- whether tracing is off
abbrev pub disabled_of : Pairs → Bool
disabled_of pairs = unwrap_or (read_by boolean (text_set variables.SdkDisabled pairs)) false

abbrev pub disabled_faults : Pairs → List Fault
disabled_faults pairs =
    faults_by boolean variables.SdkDisabled instead.False (text_set variables.SdkDisabled pairs)

-- what is set, and the values that can't be read
pub record Settings : Type 0 where
  pub disabled : Bool
  pub resource : List Attribute
  pub service_name : Option (List ℕ)
  pub sampler : NamedSampler
  pub desk : desks.DeskConfig
  pub export_timeout_ms : ℕ
  pub limits : spans.SpanLimits
  pub target : Address
  pub coding : Coding
  pub timeout_ms : ℕ
  pub known_methods : List ℕ
  pub faults : List Fault

-- the faults of one group of variables after the other, in the order of the variables
abbrev pub all_faults : Pairs → List Fault
all_faults pairs =
    let first : List Fault = resource_faults (disabled_faults pairs) pairs in
    let queue : List Fault = desk_faults (sampler_faults first pairs) pairs in
    let export : List Fault = export_timeout_faults queue pairs in
    let sending : List Fault =
    timeout_faults (target_faults (limit_faults export pairs) pairs) pairs in
    methods_faults (header_faults (unsupported_faults sending pairs) pairs) pairs

-- What the names and values set, variable by variable. (Environment Variable Specification)
unfoldable pub settings_of : Pairs → Settings
settings_of pairs = record {
  disabled = disabled_of pairs;
  resource = resource_of pairs;
  service_name = text_set variables.ServiceName pairs;
  sampler = sampler_of pairs;
  desk = desk_of pairs;
  export_timeout_ms = export_timeout_of pairs;
  limits = limits_of pairs;
  target = with_fields (target_of pairs) (headers_of pairs);
  coding = coding_of pairs;
  timeout_ms = timeout_of pairs;
  known_methods = methods_of pairs;
  faults = all_faults pairs;
}
