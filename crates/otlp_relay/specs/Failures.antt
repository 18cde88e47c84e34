-- The status that the program ends with where it fails. (profile)
use Rattle.std.specs.Prelude.{ℕ}
use Rattle.otlp_relay.specs.declared.failure.Failure.{Failure}
use Rattle.otlp_relay.specs.declared.failure.Failure.TheVariants as failures

abbrev pub status_of : Failure → ℕ
status_of failures.OutOfMemory = 3
status_of _ = 1
