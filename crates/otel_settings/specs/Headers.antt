-- Fields that a program sends with each request. (OTLP Specification, OTLP Exporter Configuration,
-- Specifying headers via environment variables)
use Rattle.std.specs.Prelude.{ℕ, List, [], ◌∷◌, ◌++◌, Option, Some, None, option_map, unwrap_or}
use Rattle.std.specs.Prelude.{if◌then◌else◌, is_some, string_bytes}
use Rattle.std.specs.Option.{option_or}
use Rattle.otlp_http.specs.Address.{Address}
use Rattle.otlp_http.specs.Fields.{Field, refusal}
use Rattle.otlp_http.specs.declared.headers.HeaderFault.{HeaderFault}
use Rattle.otel_settings.specs.declared.headers.Refusal.{Refusal as Stored}
use Rattle.otel_settings.specs.declared.variable.Variable.{Variable}
use Rattle.otel_settings.specs.declared.variable.Variable.TheVariants as variables
use Rattle.otel_settings.specs.declared.fault.Instead.TheVariants as instead
use Rattle.otel_settings.specs.Faults.{Fault}
use Rattle.otel_settings.specs.Pairs.{Pairs, text_set}
use Rattle.otel_settings.specs.ResourcePairs.{Pair, pairs_of}

-- Why a text sets no fields: one isn't taken, which has this name and this fault, or, without them,
-- the text is no pairs.
pub record Refusal : Type 0 where
  pub name : List ℕ
  pub cause : Option HeaderFault

-- the refusal of a field, for this fault
abbrev pub refused : Pair → HeaderFault → Refusal
refused pair fault = record { name = pair.0; cause = Some fault }

-- The refusal of the first of these pairs that isn't taken after these fields and the pairs before
-- it. (RFC 9110, sections 5.1, 5.3 and 5.5)
unfoldable pub refusal_after : List Field → List Pair → Option Refusal
refusal_after fields [] = None
refusal_after fields (pair ∷ pairs) =
    option_or (option_map (refused pair) (refusal fields pair))
    (refusal_after (fields ++ pair ∷ []) pairs)

-- the refusal of what is read of a text
abbrev pub refusal_of : Option (List Pair) → Option Refusal
refusal_of None = Some (record { name = []; cause = None })
refusal_of (Some pairs) = refusal_after [] pairs

-- The fields that a text sets: the pairs that it spells, or none if one isn't taken. (profile)
unfoldable pub fields_of : Option (List Pair) → List Field
fields_of read = if is_some (refusal_of read) then [] else unwrap_or read []

-- the fields that a variable sets, if it is set
abbrev pub fields_set : Variable → Pairs → Option (List Field)
fields_set variable pairs = option_map (λ text. fields_of (pairs_of text)) (text_set variable pairs)

-- Those of the traces' variable where it is set, and else those of all signals. (OTLP Exporter
-- Configuration: the more specific one takes precedence)
unfoldable pub headers_of : Pairs → List Field
headers_of pairs =
    unwrap_or (option_or (fields_set variables.OtlpTracesHeaders pairs)
    (fields_set variables.OtlpHeaders pairs)) []

-- a fault of headers says the name of the field that isn't taken, and nothing else of the text
abbrev pub refusal_fault : Variable → Refusal → Fault
refusal_fault variable it =
    record { variable = variable; text = it.name; instead = instead.NoHeaders; cause = it.cause }

abbrev pub fault_of : Variable → Option Refusal → List Fault
fault_of variable None = []
fault_of variable (Some it) = refusal_fault variable it ∷ []

-- the fault of a variable that is set to this text
abbrev pub text_fault : Variable → Option (List ℕ) → List Fault
text_fault variable None = []
text_fault variable (Some text) = fault_of variable (refusal_of (pairs_of text))

unfoldable pub header_faults : List Fault → Pairs → List Fault
header_faults before pairs =
    before
    ++ text_fault variables.OtlpHeaders (text_set variables.OtlpHeaders pairs)
    ++ text_fault variables.OtlpTracesHeaders (text_set variables.OtlpTracesHeaders pairs)

-- a place with these fields
abbrev pub with_fields : Address → List Field → Address
with_fields address fields = record address { fields = fields }

abbrev pub refusal_view : {A : Type 0} → Stored A → Refusal
refusal_view it = record { name = string_bytes it.name; cause = it.cause }
