use Rattle.std.proofs.Common.{◌≡◌, ◌≤◌, ◌-◌, length}
use Rattle.std.specs.Io.KnownBytes.{Consumes}
use Rattle.http_wire.specs.Heads.{HasNone}
use Rattle.http_wire.specs.Places.{IsPlace}
use Rattle.http_wire.proofs.head.read_head.Given as goal

-- the text is what was read, no front of it is a head, nothing failed, and the place is that after
-- it
abbrev pub invariant-loop-place : goal.invariant-loop-place
invariant-loop-place g l =
    let remaining = g.R.FaultRead.remaining in
    let failures = g.R.FaultRead.failures in
    Consumes (remaining l.initial.reader) (remaining l.reader) l.text.items
    × HasNone g.P.ParseHead.valid g.P.ParseHead.printed l.text.items
    × (length l.text.items ≤ l.limits.head)
    × (length l.spans ≡ l.limits.fields)
    × (failures l.reader ≡ failures l.initial.reader) × IsPlace l.text.items l.place

abbrev pub decreases-loop-place : goal.decreases-loop-place
decreases-loop-place g l = l.limits.head - length l.text.items
