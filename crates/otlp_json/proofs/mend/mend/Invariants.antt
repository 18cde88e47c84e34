use Rattle.std.proofs.Common.{length}
use Rattle.otlp_json.proofs.Pieces.{Follows}
use Rattle.otlp_json.proofs.mend.mend.Given as goal

abbrev pub invariant-loop-rest : goal.invariant-loop-rest
invariant-loop-rest g l = Follows l.fn.text l.out.items l.rest

abbrev pub decreases-loop-rest : goal.decreases-loop-rest
decreases-loop-rest g l = length l.rest
