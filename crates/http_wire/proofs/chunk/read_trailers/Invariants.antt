use Rattle.std.proofs.Common.{◌≡◌, ◌≤◌, ◌-◌, length}
use Rattle.std.specs.Io.KnownBytes.{Consumes}
use Rattle.http_wire.specs.Chunks.{HasNoTrailers, ended_lines}
use Rattle.http_wire.proofs.chunk.read_trailers.Given as goal

-- the text is what was read, no front of it is trailers, its lines are counted, and nothing failed
abbrev pub invariant-loop-spans : goal.invariant-loop-spans
invariant-loop-spans g l =
    let remaining = g.R.FaultRead.remaining in
    let failures = g.R.FaultRead.failures in
    Consumes (remaining l.initial.reader) (remaining l.reader) l.text.items
    × HasNoTrailers l.limits l.text.items × (length l.text.items ≤ l.limits.head)
    × (l.lines ≡ ended_lines l.text.items) × (l.lines ≤ l.limits.fields)
    × (length l.spans ≡ l.limits.fields)
    × (failures l.reader ≡ failures l.initial.reader)

abbrev pub decreases-loop-spans : goal.decreases-loop-spans
decreases-loop-spans g l = l.limits.head - length l.text.items
