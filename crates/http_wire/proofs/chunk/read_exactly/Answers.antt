use Rattle.std.proofs.Common.{◌++◌, take, arith, length-append, length-take}
use Rattle.std.proofs.KnownBytes.{Consumes-trans}
use Rattle.http_wire.proofs.chunk.read_exactly.Goals as goal

pub returns-then-is_err-clause-bytes : goal.returns-then-is_err-clause-bytes
returns-then-is_err-clause-bytes g c =
    let given = take c.in-Ok.n c.read.new.buf in
    let inv = c.pieces.invariant in (
      inv.0.0 ++ given,
      Consumes-trans _ _ _ _ _ inv.0.1 c.in-Ok.ensures.bytes.0,
      (grind (arith, length-append, length-take), grind (arith, length-append, length-take)),
      tt,
    )
