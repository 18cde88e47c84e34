use Rattle.std.proofs.Common.{◌≡◌, ◌≤◌, ◌-◌, ◌+◌, length}
use Rattle.std.specs.Io.KnownBytes.{Consumes}
use Rattle.http_wire.proofs.body.read_to_end.Given as goal

-- the body so far is what was read, and nothing failed
abbrev pub invariant-pieces : goal.invariant-pieces
invariant-pieces g l =
    let remaining = g.R.FaultRead.remaining in
    let failures = g.R.FaultRead.failures in
    Consumes (remaining l.initial.reader) (remaining l.reader) l.body.items
    × (length l.body.items ≤ l.limit) × (length l.piece ≡ 512)
    × (failures l.reader ≡ failures l.initial.reader)

abbrev pub decreases-pieces : goal.decreases-pieces
decreases-pieces g l = (l.limit + 1) - length l.body.items
