use Rattle.std.proofs.Common.{◌≡◌, ℕ, ◌≤◌, ◌+◌, ◌-◌, ◌++◌, List, length}
use Rattle.std.specs.Io.KnownBytes.{Consumes}
use Rattle.http_wire.proofs.chunk.read_exactly.Given as goal

-- what was read comes after the bytes, and nothing failed
abbrev pub invariant-pieces : goal.invariant-pieces
invariant-pieces g l =
    let remaining = g.R.FaultRead.remaining in
    let failures = g.R.FaultRead.failures in
    ((taken : List ℕ) × Consumes (remaining l.initial.reader) (remaining l.reader) taken
    × (l.body.items ≡ l.initial.body.items ++ taken) × (length taken ≤ l.size))
    × (l.start ≡ length l.initial.body.items) × (length l.piece ≡ 512)
    × (failures l.reader ≡ failures l.initial.reader)

abbrev pub decreases-pieces : goal.decreases-pieces
decreases-pieces g l = (l.size + l.start) - length l.body.items
