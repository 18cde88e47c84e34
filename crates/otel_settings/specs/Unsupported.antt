-- What the standard has and this kit hasn't: of such a variable each value is a fault but the one
-- that says what there is. (OpenTelemetry Specification, Environment Variable Specification,
-- General SDK Configuration, Exporter Selection; OTLP Specification, OTLP Exporter Configuration;
-- that they are faults: profile)
use Rattle.std.specs.Prelude.{ℕ, Bool, false, List, map, ◌++◌, Option, Some, None, bytes_eq, codes}
use Rattle.std.specs.Char.{to_ascii_lowercase}
use Rattle.otel_settings.specs.declared.variable.Variable.{Variable}
use Rattle.otel_settings.specs.declared.variable.Variable.TheVariants as variables
use Rattle.otel_settings.specs.declared.fault.Instead.{Instead}
use Rattle.otel_settings.specs.declared.fault.Instead.TheVariants as instead
use Rattle.otel_settings.specs.Pairs.{Pairs, text_set}
use Rattle.otel_settings.specs.Faults.{Fault, unread}
use Rattle.otel_settings.specs.Codings.{coding_faults}

-- whether a variable is set to this word, in letters of either case (Enum)
abbrev pub is_only : List ℕ → Option (List ℕ) → Bool
is_only word None = false
is_only word (Some text) = bytes_eq (map to_ascii_lowercase text) (map to_ascii_lowercase word)

-- The fault of a variable that may be set to this word alone. To an empty word none can be set.
unfoldable pub other_faults : List ℕ → Variable → Instead → Pairs → List Fault
other_faults word variable other pairs =
    unread variable other (text_set variable pairs) (is_only word (text_set variable pairs))

-- other exporters than `otlp`, and other propagators than `tracecontext`
unfoldable pub selection_faults : List Fault → Pairs → List Fault
selection_faults before pairs =
    before
    ++ other_faults (codes "otlp") variables.TracesExporter instead.Otlp pairs
    ++ other_faults (codes "tracecontext") variables.Propagators instead.TraceContext pairs

-- other protocols than `http/protobuf`, and then other compression than `gzip` and `none`
unfoldable pub form_faults : List Fault → Pairs → List Fault
form_faults before pairs =
    coding_faults (before
    ++ other_faults (codes "http/protobuf") variables.OtlpProtocol instead.HttpProtobuf pairs
    ++ other_faults (codes "http/protobuf") variables.OtlpTracesProtocol instead.HttpProtobuf pairs)
    pairs

-- any certificate, and any key
unfoldable pub tls_faults : List Fault → Pairs → List Fault
tls_faults before pairs =
    before
    ++ other_faults (codes "") variables.OtlpCertificate instead.PlainHttp pairs
    ++ other_faults (codes "") variables.OtlpTracesCertificate instead.PlainHttp pairs
    ++ other_faults (codes "") variables.OtlpClientKey instead.PlainHttp pairs
    ++ other_faults (codes "") variables.OtlpTracesClientKey instead.PlainHttp pairs
    ++ other_faults (codes "") variables.OtlpClientCertificate instead.PlainHttp pairs
    ++ other_faults (codes "") variables.OtlpTracesClientCertificate instead.PlainHttp pairs

-- all of them, after those before
abbrev pub unsupported_faults : List Fault → Pairs → List Fault
unsupported_faults before pairs =
    tls_faults (form_faults (selection_faults before pairs) pairs) pairs
