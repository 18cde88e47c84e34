use Rattle.std.proofs.Common.{◌≡◌, ◌++◌, drop, string_bytes}
use Rattle.std.specs.List.{flat_map}
use Rattle.trace_tree.specs.Lines.{row_text}
use Rattle.trace_tree.proofs.draw.write_tree.Given as goal

-- what is written, and then the lines of the rows that are left, are all
abbrev pub invariant-loop-row : goal.invariant-loop-row
invariant-loop-row g l =
    string_bytes l.out ++ flat_map (row_text l.spans l.frame l.width) (drop l.row-index l.rows)
    ≡ string_bytes l.fn.out ++ flat_map (row_text l.spans l.frame l.width) l.rows
