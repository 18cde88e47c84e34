use Rattle.std.proofs.Common.{arith, ◌∙◌, length-drop, length-take}
use Rattle.http_wire.proofs.DeviceLemmas.{Appends-take}
use Rattle.http_wire.proofs.transfer.write_piece.Goals as goal

pub loop-at-preserved : goal.loop-at-preserved
loop-at-preserved g c =
    let bound = c.in-Ok.ensures.bound in (
      grind (arith, length-drop, length-take),
      Appends-take _ _ _ _ _ _ c.loop-at.invariant.1 c.in-Ok.ensures.bytes,
      c.in-Ok.ensures.counted ∙ c.loop-at.invariant.2,
    )
