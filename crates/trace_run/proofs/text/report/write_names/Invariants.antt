use Rattle.std.proofs.Common.{◌≡◌, ◌++◌, string_bytes}
use Rattle.std.specs.List.{flat_map}
use Rattle.trace_run.specs.Lines.{name_line}
use Rattle.trace_run.proofs.text.report.write_names.Given as goal

-- what is written, and then the lines of the names that are left, are all
abbrev pub invariant-loop-entry : goal.invariant-loop-entry
invariant-loop-entry g l =
    string_bytes l.out ++ flat_map (name_line l.fn.word) l.entry-iterator
    ≡ string_bytes l.initial.out ++ flat_map (name_line l.fn.word) l.initial.entry-iterator
