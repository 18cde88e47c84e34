use Rattle.std.proofs.Common.{◌≡◌, ◌-◌, map, take}
use Rattle.trace_lines.specs.Lines.{line_for}
use Rattle.trace_lines.specs.Plans.{AreGathered, values}
use Rattle.trace_lines.proofs.planning.mark_some.Given as goal

-- those before have their lines
abbrev pub invariant-loop-at : goal.invariant-loop-at
invariant-loop-at g l =
    AreGathered (values l.spans) l.known
    → l.fn.lines.items ≡ map (line_for (values l.spans)) (take l.from l.rows)
    → l.lines.items ≡ map (line_for (values l.spans)) (take l.at l.rows)

abbrev pub decreases-loop-at : goal.decreases-loop-at
decreases-loop-at g l = l.until - l.at
