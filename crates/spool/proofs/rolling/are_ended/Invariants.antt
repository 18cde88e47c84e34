use Rattle.std.proofs.Common.{take}
use Rattle.std.specs.Prelude.{All}
use Rattle.spool.specs.Settled.{IsEnded}
use Rattle.spool.proofs.rolling.are_ended.Given as goal

abbrev pub invariant-loop-segment : goal.invariant-loop-segment
invariant-loop-segment l = All (IsEnded l.done) (take l.segment-index l.segments)
