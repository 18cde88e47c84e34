use Rattle.otlp_wire.proofs.VarintSteps.{Begun}
use Rattle.otlp_wire.proofs.reader.read_groups.Given as goal

abbrev pub invariant-loop-i : goal.invariant-loop-i
invariant-loop-i l = Begun l.bytes l.value l.scale l.i
