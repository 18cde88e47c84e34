use Rattle.std.proofs.Common.{◌≤◌, length, take}
use Rattle.std.specs.Io.KnownBytes.{Appends}
use Rattle.trace_script.proofs.program.print.Given as goal

-- The first bytes of the line are written.
abbrev pub invariant-turns : goal.invariant-turns
invariant-turns g l =
    (l.written ≤ length l.line)
    × Appends (g.W.Write.contents l.initial.output) (g.W.Write.contents l.output)
    (take l.written l.line)
