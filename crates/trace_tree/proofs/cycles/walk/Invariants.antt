use Rattle.std.proofs.Common.{count_by}
use Rattle.trace_tree.specs.Walks.{is_unseen}
use Rattle.trace_tree.proofs.Walking.{IsWalking}
use Rattle.trace_tree.proofs.cycles.walk.Given as goal

abbrev pub invariant-loop-marks : goal.invariant-loop-marks
invariant-loop-marks l = IsWalking l.parents l.fn.marks l.marks l.start l.at

abbrev pub decreases-loop-marks : goal.decreases-loop-marks
decreases-loop-marks l = count_by is_unseen l.marks
