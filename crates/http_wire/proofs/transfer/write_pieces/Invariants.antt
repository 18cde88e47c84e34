use Rattle.std.proofs.Common.{◌≡◌, ◌+◌, length, take, drop, map}
use Rattle.std.specs.Io.KnownBytes.{Appends}
use Rattle.std.specs.List.{concat}
use Rattle.http_wire.proofs.transfer.write_pieces.Given as goal

-- the pieces below the index went out, and nothing failed
abbrev pub invariant-loop-piece : goal.invariant-loop-piece
invariant-loop-piece g l =
    let contents = g.W.FaultWrite.contents in
    let failures = g.W.FaultWrite.failures in
    let whole = concat (map (λ p. p.now) l.pieces) in
    let rest = concat (map (λ p. p.now) (drop l.piece-index l.pieces)) in
    (drop l.sent whole ≡ rest) × (l.sent + length rest ≡ length whole)
    × Appends (contents l.initial.writer) (contents l.writer) (take l.sent whole)
    × (failures l.writer ≡ failures l.initial.writer)
