use Rattle.std.proofs.Common.{count_by}
use Rattle.trace_tree.specs.Walks.{is_seen}
use Rattle.trace_tree.proofs.Rounding.{IsRounding}
use Rattle.trace_tree.proofs.cycles.first_of_cycle.Given as goal

abbrev pub invariant-loop-marks : goal.invariant-loop-marks
invariant-loop-marks l = IsRounding l.parents l.fn.marks l.marks l.start l.entry l.first l.at

abbrev pub decreases-loop-marks : goal.decreases-loop-marks
decreases-loop-marks l = count_by is_seen l.marks
