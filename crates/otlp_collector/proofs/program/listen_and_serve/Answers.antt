use Rattle.std.proofs.Common.{subst}
use Rattle.otlp_collector.specs.Served.{PrintsConnections}
use Rattle.otlp_collector.proofs.Prints.{all-printed, ok-weaker}
use Rattle.otlp_collector.proofs.program.listen_and_serve.Goals as goal

pub returns : goal.returns
returns g c =
    let old = g.W.Write.contents c.args.output.now in
    let now = g.W.Write.contents c.print_port.new.output in
    let new = g.W.Write.contents c.serve_connections.new.output in
    ok-weaker c.serve_connections.result _ _
    (λ h. all-printed c.args.args.port c.in_ok-port.port c.args.args.count c.args.args.max_body old
    now new c.in_ok-port.ensures c.in_ok-print_port.ensures
    (subst (λ limits. PrintsConnections limits c.args.args.count now new) c.limits_of.ensures h))
    c.serve_connections.ensures
