use Rattle.std.proofs.Common.{◌∙◌, ◌≤◌, [], get_or, sym, subst, arith, length}
use Rattle.std.proofs.Math.Seq.{take-length}
use Rattle.std.specs.Io.KnownBytes.{Appends}
use Rattle.http_wire.proofs.DeviceLemmas.{Appends-piece, concat_from, concat_length, drop_piece}
use Rattle.http_wire.proofs.transfer.write_pieces.Goals as goal

pub returns-in-Err-clause-stopped : goal.returns-in-Err-clause-stopped
returns-in-Err-clause-stopped g c =
    let left =
    c.loop-piece.invariant.0
    ∙ concat_from c.args.pieces.now c.loop-piece.piece-index
    (record { ref_ptr = (0, 0); now = [] }) c.loop-piece-test.true in
    let within = c.in-Err.ensures.within in
    Appends-piece _ _ _ _ _ _ _ _ left (omega arith) c.loop-piece.invariant.2 c.in-Err.ensures.err

pub loop-piece-preserved : goal.loop-piece-preserved
loop-piece-preserved g c =
    let left =
    c.loop-piece.invariant.0
    ∙ concat_from c.args.pieces.now c.loop-piece.piece-index
    (record { ref_ptr = (0, 0); now = [] }) c.loop-piece-test.true in
    let lengths =
    concat_length c.args.pieces.now c.loop-piece.piece-index
    (record { ref_ptr = (0, 0); now = [] }) c.loop-piece-test.true in
    let sum = c.loop-piece.invariant.1 in
    let piece =
    (get_or c.args.pieces.now c.loop-piece.piece-index
    (record { ref_ptr = (0, 0); now = [] })).now in
    let all_of : length piece ≤ length piece = omega arith in (
      drop_piece _ _ _ _ left,
      omega (arith, lengths, sum),
      Appends-piece _ _ _ _ _ _ _ _ left all_of c.loop-piece.invariant.2
          (subst (Appends (g.W.FaultWrite.contents c.loop-piece.writer)
          (g.W.FaultWrite.contents c.write_piece.new.writer))
          (sym (take-length piece)) c.in-Ok.ensures.ok),
      c.in-Ok.ensures.counted ∙ c.loop-piece.invariant.3,
    )
