use Rattle.std.proofs.Common.{rules}
use Rattle.trace_script.proofs.Output.{more-written, written-more}
use Rattle.trace_script.proofs.program.print.Goals as goal
use Rattle.trace_script.proofs.program.print.Goals.{in-Ok, in-Err}

pub turns-preserved : goal.turns-preserved
turns-preserved g c =
    let line = c.args.line.now in
    let written = c.turns.written in
    elim c.match-write.branch [
      | in-Ok w ↦ rw w.written-is (
        more-written line written w.in-Ok.count c.turns.invariant.0 w.in-Ok.ensures.bound,
        written-more _ _ _ line written w.in-Ok.count c.turns.invariant.1 w.in-Ok.ensures.bytes,
      )
      | in-Err w ↦ rw w.written-is (c.turns.invariant.0, search rules)
    ]
