-- The list of values that can't be read.
use Rattle.std.specs.Prelude.{ℕ, Bool, true, false, List, [], ◌∷◌, map, Option, Some, None, is_some}
use Rattle.std.specs.Prelude.{string_bytes, option_and_then}
use Rattle.otel_settings.specs.declared.variable.Variable.{Variable}
use Rattle.otlp_http.specs.declared.headers.HeaderFault.{HeaderFault}
use Rattle.otel_settings.specs.declared.fault.Instead.{Instead}
use Rattle.otel_settings.specs.declared.fault.SettingFault.{SettingFault}

-- A variable, its value, and what is used instead. Of headers the text is the name of a field, and
-- the cause why that field isn't taken. (Environment Variable Specification: a value that can't be
-- read is named in a warning, and counts as unset)
pub record Fault : Type 0 where
  pub variable : Variable
  pub text : List ℕ
  pub instead : Instead
  pub cause : Option HeaderFault

abbrev pub fault_view : {A : Type 0} → SettingFault A → Fault
fault_view f = record {
  variable = f.variable;
  text = string_bytes f.text;
  instead = f.instead;
  cause = f.cause;
}

abbrev pub faults_view : {A : Type 0} → List (SettingFault A) → List Fault
faults_view faults = map fault_view faults

-- a variable that is set and was not read is one fault, any other is none
abbrev pub unread : Variable → Instead → Option (List ℕ) → Bool → List Fault
unread variable instead None is_read = []
unread variable instead (Some text) true = []
unread variable instead (Some text) false =
    record { variable = variable; text = text; instead = instead; cause = None } ∷ []

-- what is read of the text that a variable is set to
abbrev pub read_by : {V : Type 0} → (List ℕ → Option V) → Option (List ℕ) → Option V
read_by reading text = option_and_then reading text

-- the fault of a variable of whose text nothing is read
abbrev pub faults_by : {V : Type 0} → (List ℕ → Option V) → Variable → Instead → Option (List ℕ)
    → List Fault
faults_by reading variable instead text =
    unread variable instead text (is_some (read_by reading text))
