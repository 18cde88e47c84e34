use Rattle.std.proofs.Common.{◌≡◌, ◌≤◌, ◌-◌, length}
use Rattle.http_wire.proofs.ChunksLemmas.{Came}
use Rattle.http_wire.proofs.body.read_chunks.Given as goal

-- whole chunks came, whose data is the body so far and within the limit, and nothing failed
abbrev pub invariant-chunks : goal.invariant-chunks
invariant-chunks g l =
    let remaining = g.R.FaultRead.remaining in
    let failures = g.R.FaultRead.failures in
    Came l.limits (remaining l.initial.reader) (remaining l.reader) l.body.items
    × (length l.body.items ≤ l.limits.body)
    × (failures l.reader ≡ failures l.initial.reader)

abbrev pub decreases-chunks : goal.decreases-chunks
decreases-chunks g l = l.limits.body - length l.body.items
