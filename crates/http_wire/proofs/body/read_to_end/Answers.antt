use Rattle.std.proofs.Common.{◌++◌, take, arith, length-append, length-take}
use Rattle.std.proofs.KnownBytes.{Consumes-trans}
use Rattle.http_wire.proofs.body.read_to_end.Goals as goal

pub returns-then-n-limit-clause-body : goal.returns-then-n-limit-clause-body
returns-then-n-limit-clause-body g c =
    let given = take c.in-Ok.n c.read.new.buf in (
      c.pieces.body.items ++ given,
      Consumes-trans _ _ _ _ _ c.pieces.invariant.0 c.in-Ok.ensures.bytes.0,
      grind (arith, length-append, length-take),
    )

pub returns-then-is_err-clause-body : goal.returns-then-is_err-clause-body
returns-then-is_err-clause-body g c =
    let given = take c.in-Ok.n c.read.new.buf in (
      c.pieces.body.items ++ given,
      Consumes-trans _ _ _ _ _ c.pieces.invariant.0 c.in-Ok.ensures.bytes.0,
      grind (arith, length-append, length-take),
    )
