use Rattle.std.proofs.Common.{◌≡◌, ◌≤◌, length, take, ◌-◌}
use Rattle.std.specs.Io.KnownBytes.{Appends}
use Rattle.http_wire.proofs.transfer.write_piece.Given as goal

-- the bytes below the index went out, and nothing failed
abbrev pub invariant-loop-at : goal.invariant-loop-at
invariant-loop-at g l =
    let contents = g.W.FaultWrite.contents in
    let failures = g.W.FaultWrite.failures in
    (l.at ≤ length l.piece)
    × Appends (contents l.initial.writer) (contents l.writer) (take l.at l.piece)
    × (failures l.writer ≡ failures l.initial.writer)

abbrev pub decreases-loop-at : goal.decreases-loop-at
decreases-loop-at g l = length l.piece - l.at
