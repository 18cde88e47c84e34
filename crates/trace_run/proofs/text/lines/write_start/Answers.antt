use Rattle.trace_run.proofs.text.lines.write_start.Goals as goal

pub returns-in_ok-writeln-in-NoRandomness : goal.returns-in_ok-writeln-in-NoRandomness
returns-in_ok-writeln-in-NoRandomness g c =
    rw c.in-NoRandomness.is c.in_ok-writeln-in-NoRandomness.ensures.bytes
