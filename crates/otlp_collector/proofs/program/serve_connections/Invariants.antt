use Rattle.otlp_collector.specs.Served.{PrintsConnections}
use Rattle.otlp_collector.proofs.program.serve_connections.Given as goal

-- This many connections are printed.
abbrev pub invariant-loop-served : goal.invariant-loop-served
invariant-loop-served g l =
    PrintsConnections l.limits l.served (g.W.Write.contents l.initial.output)
    (g.W.Write.contents l.output)
