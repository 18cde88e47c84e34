use Rattle.std.proofs.Common.{◌≡◌, ◌≤◌, ◌-◌, length}
use Rattle.std.specs.Io.KnownBytes.{Consumes}
use Rattle.httparse.specs.Grammar.{HasNoChunkLine}
use Rattle.http_wire.proofs.chunk.read_line.Given as goal

-- the text is what was read, no front of it is a line, and nothing failed
abbrev pub invariant-loop-text : goal.invariant-loop-text
invariant-loop-text g l =
    let remaining = g.R.FaultRead.remaining in
    let failures = g.R.FaultRead.failures in
    Consumes (remaining l.initial.reader) (remaining l.reader) l.text.items
    × HasNoChunkLine l.text.items × (length l.text.items ≤ l.most)
    × (failures l.reader ≡ failures l.initial.reader)

abbrev pub decreases-loop-text : goal.decreases-loop-text
decreases-loop-text g l = l.most - length l.text.items
