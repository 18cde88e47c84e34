-- In which coding bodies are sent. (OTLP Specification, OTLP Exporter Configuration, Compression)
use Rattle.std.specs.Prelude.{ℕ, List, ◌++◌, Option, Some, None, codes, unwrap_or}
use Rattle.std.specs.Prelude.{if◌then◌else◌}
use Rattle.std.specs.Option.{option_or}
use Rattle.otlp_http.specs.declared.request.Coding.{Coding}
use Rattle.otlp_http.specs.declared.request.Coding.TheVariants.{Identity, Gzip}
use Rattle.otel_settings.specs.declared.variable.Variable.TheVariants as variables
use Rattle.otel_settings.specs.declared.fault.Instead.TheVariants as instead
use Rattle.otel_settings.specs.Pairs.{Pairs, text_set}
use Rattle.otel_settings.specs.Faults.{Fault, read_by, faults_by}
use Rattle.otel_settings.specs.Readings.{is_word}

-- `gzip` or `none`, in letters of either case (Enum)
unfoldable pub coding : List ℕ → Option Coding
coding text =
    if is_word (codes "gzip") text then Some Gzip
    else if is_word (codes "none") text then Some Identity else None

-- that of traces where it is set, and the one of all signals where it isn't; none by default
unfoldable pub coding_of : Pairs → Coding
coding_of pairs =
    unwrap_or (option_or (read_by coding (text_set variables.OtlpTracesCompression pairs))
    (read_by coding (text_set variables.OtlpCompression pairs))) Identity

-- the faults of both, after those before
abbrev pub coding_faults : List Fault → Pairs → List Fault
coding_faults before pairs =
    before
    ++ faults_by coding variables.OtlpCompression instead.NoCompression
    (text_set variables.OtlpCompression pairs)
    ++ faults_by coding variables.OtlpTracesCompression
    (instead.Variable variables.OtlpCompression)
    (text_set variables.OtlpTracesCompression pairs)
