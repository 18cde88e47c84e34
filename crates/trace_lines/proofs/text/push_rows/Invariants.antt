use Rattle.std.proofs.Common.{◌≡◌, ◌++◌, ◌-◌, length, string_bytes, drop}
use Rattle.trace_lines.specs.Texts.{lines_text}
use Rattle.trace_lines.proofs.text.push_rows.Given as goal

-- what is written, and then what is left, are all
abbrev pub invariant-loop-at : goal.invariant-loop-at
invariant-loop-at g l =
    string_bytes l.out ++ lines_text l.spans l.frame (drop l.at l.lines)
    ≡ string_bytes l.fn.out ++ lines_text l.spans l.frame (drop l.from l.lines)

abbrev pub decreases-loop-at : goal.decreases-loop-at
decreases-loop-at g l = length l.lines - l.at
