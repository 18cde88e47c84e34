use Rattle.std.proofs.Common.{◌≡◌, rules, subst}
use Rattle.std.specs.Io.KnownBytes.{Appends}
use Rattle.otlp_collector.proofs.Prints.{none-yet, one-more, one-written}
use Rattle.otlp_collector.proofs.program.serve_connections.Goals as goal

pub loop-served-init : goal.loop-served-init
loop-served-init g c = none-yet c.args.limits.now (g.W.Write.contents c.args.output.now)

pub loop-served-preserved : goal.loop-served-preserved
loop-served-preserved g c =
    let now = g.W.Write.contents c.loop-served.output in
    let new = g.W.Write.contents c.print.new.output in
    let text = c.in-Ok.text.items in
    let is : c.as_slice.result.now ≡ text = search rules in
    let gained = subst (Appends now new) is c.in_ok-print.ensures in
    one-more c.args.limits.now c.loop-served.served _ now new c.loop-served.invariant
    (one-written c.args.limits.now _ text now new c.in-Ok.ensures gained)
