-- What the faults of a message say of the count of failures. (profile)
use Rattle.std.specs.Prelude.{◌≡◌, ℕ, ◌⊎◌, Result, Err}
use Rattle.http_wire.specs.declared.fault.HttpFault.{HttpFault}
use Rattle.http_wire.specs.declared.fault.HttpFault.TheVariants as faults
use Rattle.http_wire.specs.Devices.{one_more}

-- Only a read that failed is counted, and where one did, no other read was tried. (profile)
abbrev pub CountsFailedRead : {T : Type 0} → Result T HttpFault → ℕ → ℕ → Type 0
CountsFailedRead (Err faults.Device) old new = new ≡ one_more old
CountsFailedRead _ old new = new ≡ old

-- The same of a head that is lacking: a text that can't begin one is reported as that also where a
-- read failed after it. (profile)
abbrev pub CountsAtHead : HttpFault → ℕ → ℕ → Type 0
CountsAtHead faults.Device old new = new ≡ one_more old
CountsAtHead faults.Ended old new = new ≡ old
CountsAtHead faults.OutOfMemory old new = new ≡ old
CountsAtHead _ old new = (new ≡ old) ⊎ (new ≡ one_more old)
