use Rattle.otlp_span.specs.Slips.{slip_count}
use Rattle.otlp_span.proofs.slip.Slip.drop.Given as goal

abbrev pub decreases-loop-below : goal.decreases-loop-below
decreases-loop-below g l = slip_count l.below
