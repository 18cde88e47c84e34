use Rattle.std.proofs.Common.{rules}
use Rattle.std.specs.Prelude.{Some}
use Rattle.otlp_collector.specs.Served.{PrintsOne}
use Rattle.otlp_collector.proofs.Prints.{one-served, one-without}
use Rattle.otlp_collector.proofs.link.text_of_next.Goals as goal

pub returns-in_default : goal.returns-in_default
returns-in_default g c =
    let old = Some c.new-text.result.inner.items in
    let new = Some c.print_none.new.output.inner.items in
    let printed : PrintsOne c.args.limits.now c.args.number old new =
    one-without c.args.limits.now c.args.number old new c.in_ok-print_none.ensures.ok in
    search rules

pub returns : goal.returns
returns g c =
    let old = Some c.new-text.result.inner.items in
    let new = Some c.serve-printed.new.output.inner.items in
    let printed : PrintsOne c.args.limits.now c.args.number old new =
    one-served c.args.limits.now c.args.number _ _ _ _ _ _ old new c.in_ok-printed.ensures.ok in
    search rules
