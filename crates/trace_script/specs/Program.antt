-- What the program answers.
use Rattle.std.specs.Prelude.{ℕ}
use Rattle.trace_script.specs.declared.parse.ScriptError.TheVariants as scripts
use Rattle.otlp_proto.specs.declared.encoder.EncodeFault.{EncodeFault}
use Rattle.otlp_proto.specs.declared.encoder.EncodeFault.TheVariants as faults
use Rattle.trace_script.specs.declared.failure.Failure.{Failure}
use Rattle.trace_script.specs.declared.failure.Failure.TheVariants as failures

abbrev pub status_of : Failure → ℕ
status_of failures.Read = 1
status_of failures.Write = 1
status_of (failures.Script (scripts.BadLine n)) = 2
status_of (failures.Script scripts.OutOfMemory) = 3
status_of failures.OutOfMemory = 3
status_of failures.TooLarge = 3

abbrev pub failure_of : EncodeFault → Failure
failure_of faults.OutOfMemory = failures.OutOfMemory
failure_of faults.TooLarge = failures.TooLarge
