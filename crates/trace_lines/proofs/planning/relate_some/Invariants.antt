use Rattle.std.proofs.Common.{◌-◌}
use Rattle.trace_tree.specs.Steps.{AreFirst}
use Rattle.trace_lines.specs.Plans.{AreGathered, tree_of, values}
use Rattle.trace_lines.proofs.planning.relate_some.Given as goal

-- those before are added
abbrev pub invariant-loop-at : goal.invariant-loop-at
invariant-loop-at g l =
    AreGathered (values l.spans) l.known → AreFirst (tree_of (values l.spans)) l.from l.fn.kins
    → AreFirst (tree_of (values l.spans)) l.at l.kins

abbrev pub decreases-loop-at : goal.decreases-loop-at
decreases-loop-at g l = l.until - l.at
