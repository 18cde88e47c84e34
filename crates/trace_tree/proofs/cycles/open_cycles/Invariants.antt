use Rattle.trace_tree.specs.Walks.{AreOpenBefore}
use Rattle.trace_tree.proofs.cycles.open_cycles.Given as goal

abbrev pub invariant-loop-start : goal.invariant-loop-start
invariant-loop-start g l = AreOpenBefore l.parents l.tree.items l.marks.items l.start
