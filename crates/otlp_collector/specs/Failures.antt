-- The status that the program ends with where it fails. (profile)
use Rattle.std.specs.Prelude.{ℕ}
use Rattle.otlp_collector.specs.declared.failure.Failure.{Failure}
use Rattle.otlp_collector.specs.declared.failure.Failure.TheVariants as failures

abbrev pub status_of : Failure → ℕ
status_of (failures.Listen port cause) = 1
status_of failures.Write = 1
status_of failures.OutOfMemory = 3
