-- What is written where not all is, and what the writer counts.
use Rattle.std.specs.Prelude.{◌≡◌, ℕ, ◌≤◌, List, length, take, Option, Result, Err}
use Rattle.std.specs.Io.KnownBytes.{Appends}
use Rattle.http_wire.specs.Devices.{one_more}
use Rattle.otlp_collector.specs.declared.print_fault.PrintFault.{PrintFault}
use Rattle.otlp_collector.specs.declared.print_fault.PrintFault.TheVariants as faults

-- a front of the text was written, and nothing else
abbrev pub AppendsFront : Option (List ℕ) → Option (List ℕ) → List ℕ → Type 0
AppendsFront old new text = (n : ℕ) × (n ≤ length text) × Appends old new (take n text)

-- a write that failed is counted, and nothing else
abbrev pub CountsFailedWrite : {T : Type 0} → Result T PrintFault → ℕ → ℕ → Type 0
CountsFailedWrite (Err faults.Device) old new = new ≡ one_more old
CountsFailedWrite _ old new = new ≡ old
