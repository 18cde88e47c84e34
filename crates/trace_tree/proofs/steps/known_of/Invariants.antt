use Rattle.trace_tree.specs.Steps.{AreFirst}
use Rattle.trace_tree.proofs.steps.known_of.Given as goal

abbrev pub invariant-loop-index : goal.invariant-loop-index
invariant-loop-index g l = AreFirst l.spans l.index l.known
