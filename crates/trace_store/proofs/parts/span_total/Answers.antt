use Rattle.std.proofs.Common.{◌<◌, ◌+◌, arith, length}
use Rattle.trace_store.proofs.PartLemmas.{le_all, of_none, one_more}
use Rattle.trace_store.proofs.parts.span_total.Goals as goal

pub returns-in_err-total : goal.returns-in_err-total
returns-in_err-total g c =
    let within : c.loop-spans.spans-index < length c.args.parts.now = omega arith in
    let more =
    one_more length c.args.parts.now c.loop-spans.spans-index c.loop-spans-item.result within
    c.loop-spans-item.is in
    let most = le_all length c.args.parts.now (c.loop-spans.spans-index + 1) in
    of_none _ _ c.from_residual.result c.from_residual.ensures
    (omega (arith, more, most, c.in_err-total.ensures))
