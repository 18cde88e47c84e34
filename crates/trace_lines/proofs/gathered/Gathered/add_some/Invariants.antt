use Rattle.std.proofs.Common.{◌-◌, take}
use Rattle.trace_lines.specs.Plans.{AreGathered, values}
use Rattle.trace_lines.proofs.gathered.Gathered.add_some.Given as goal

-- what is known is that of the spans before
abbrev pub invariant-loop-at : goal.invariant-loop-at
invariant-loop-at g l =
    AreGathered (take l.from (values l.spans)) l.fn.self
    → AreGathered (take l.at (values l.spans)) l.self

abbrev pub decreases-loop-at : goal.decreases-loop-at
decreases-loop-at g l = l.until - l.at
