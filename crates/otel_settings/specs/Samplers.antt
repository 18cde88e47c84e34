-- Which sampler is used. (OpenTelemetry Specification, Environment Variable Specification, General
-- SDK Configuration)
use Rattle.std.specs.Prelude.{ℕ, Bool, true, false, ◌&&◌, List, ◌++◌, Option, Some, None, codes}
use Rattle.std.specs.Prelude.{if◌then◌else◌, nat_le, unwrap_or}
use Rattle.model_span.specs.Sampling as model
use Rattle.otlp_sampler.specs.Decimal.{denominator, is_decimal, numerator}
use Rattle.otlp_sampler.specs.Ratio.{by_threshold, threshold_of}
use Rattle.otel_settings.specs.declared.sampler.SamplerName.{SamplerName}
use Rattle.otel_settings.specs.declared.sampler.SamplerName.TheVariants as names
use Rattle.otel_settings.specs.declared.sampler.NamedSampler.{NamedSampler}
use Rattle.otel_settings.specs.declared.variable.Variable.TheVariants as variables
use Rattle.otel_settings.specs.declared.fault.Instead.TheVariants as instead
use Rattle.otel_settings.specs.Pairs.{Pairs, text_set}
use Rattle.otel_settings.specs.Readings.{is_word}
use Rattle.otel_settings.specs.Faults.{Fault, read_by, faults_by}

unfoldable pub name_of : SamplerName → List ℕ
name_of names.AlwaysOn = codes "always_on"
name_of names.AlwaysOff = codes "always_off"
name_of names.TraceIdRatio = codes "traceidratio"
name_of names.ParentBasedAlwaysOn = codes "parentbased_always_on"
name_of names.ParentBasedAlwaysOff = codes "parentbased_always_off"
name_of names.ParentBasedTraceIdRatio = codes "parentbased_traceidratio"

-- the sampler of a name, in letters of either case (Enum)
unfoldable pub sampler : List ℕ → Option SamplerName
sampler text =
    if is_word (codes "always_on") text then Some names.AlwaysOn
    else if is_word (codes "always_off") text then Some names.AlwaysOff
    else if is_word (codes "traceidratio") text then Some names.TraceIdRatio
    else if is_word (codes "parentbased_always_on") text then Some names.ParentBasedAlwaysOn
    else if is_word (codes "parentbased_always_off") text then Some names.ParentBasedAlwaysOff
    else if is_word (codes "parentbased_traceidratio") text then Some names.ParentBasedTraceIdRatio
    else None

-- what a sampler decides, at the threshold of its ratio
unfoldable pub meaning_of : SamplerName → ℕ → model.SamplerMeaning
meaning_of names.AlwaysOn threshold = model.always_on
meaning_of names.AlwaysOff threshold = model.always_off
meaning_of names.TraceIdRatio threshold = by_threshold threshold
meaning_of names.ParentBasedAlwaysOn threshold = model.as_parent model.always_on
meaning_of names.ParentBasedAlwaysOff threshold = model.as_parent model.always_off
meaning_of names.ParentBasedTraceIdRatio threshold = model.as_parent (by_threshold threshold)

-- ---- the name

-- as the parent says, and each span without one, by default
abbrev pub sampler_set : Pairs → SamplerName
sampler_set pairs =
    unwrap_or (read_by sampler (text_set variables.TracesSampler pairs)) names.ParentBasedAlwaysOn

abbrev pub name_faults : Pairs → List Fault
name_faults pairs =
    faults_by sampler variables.TracesSampler (instead.Sampler names.ParentBasedAlwaysOn)
    (text_set variables.TracesSampler pairs)

-- ---- the argument

-- whether a sampler takes an argument, its ratio
unfoldable pub takes_ratio : SamplerName → Bool
takes_ratio names.AlwaysOn = false
takes_ratio names.AlwaysOff = false
takes_ratio names.TraceIdRatio = true
takes_ratio names.ParentBasedAlwaysOn = false
takes_ratio names.ParentBasedAlwaysOff = false
takes_ratio names.ParentBasedTraceIdRatio = true

-- the threshold of the ratio that a text writes: a decimal number in [0..1]
unfoldable pub ratio : List ℕ → Option ℕ
ratio text =
    if is_decimal text && nat_le (numerator text) (denominator text)
    then Some (threshold_of (numerator text) (denominator text)) else None

-- the argument that is set, which only a sampler by a ratio has (that others ignore it: profile)
abbrev pub argument : SamplerName → Pairs → Option (List ℕ)
argument name pairs =
    if takes_ratio name then text_set variables.TracesSamplerArg pairs else None

-- the ratio is 1.0 by default, whose threshold is 0
unfoldable pub ratio_of : SamplerName → Pairs → ℕ
ratio_of name pairs = unwrap_or (read_by ratio (argument name pairs)) 0

unfoldable pub ratio_faults : SamplerName → Pairs → List Fault
ratio_faults name pairs =
    faults_by ratio variables.TracesSamplerArg instead.RatioOne (argument name pairs)

-- ---- both

abbrev pub sampler_of : Pairs → NamedSampler
sampler_of pairs =
    record { name = sampler_set pairs; ratio = ratio_of (sampler_set pairs) pairs }

-- the faults before it, and then its own
abbrev pub sampler_faults : List Fault → Pairs → List Fault
sampler_faults before pairs =
    before ++ name_faults pairs ++ ratio_faults (sampler_set pairs) pairs
