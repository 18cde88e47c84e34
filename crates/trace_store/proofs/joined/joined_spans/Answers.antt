use Rattle.std.proofs.Common.{◌<◌, ◌+◌, arith, length}
use Rattle.trace_store.proofs.Fronts.{joined_le, joined_more}
use Rattle.trace_store.proofs.PartLemmas.{of_none}
use Rattle.trace_store.proofs.joined.joined_spans.Goals as goal

pub returns-in_err-spans_with : goal.returns-in_err-spans_with
returns-in_err-spans_with g c =
    let within : c.loop-trace.trace-index < length c.args.parts.now = omega arith in
    let more =
    joined_more length c.args.traces.now.entries c.args.parts.now
    c.loop-trace.trace-index c.loop-trace-item.result within c.loop-trace-item.is in
    let most =
    joined_le length c.args.traces.now.entries c.args.parts.now
    (c.loop-trace.trace-index + 1) in
    of_none _ _ c.from_residual.result c.from_residual.ensures
    (omega (arith, more, most, c.in_err-spans_with.ensures))

pub returns-in_err-total : goal.returns-in_err-total
returns-in_err-total g c =
    let within : c.loop-trace.trace-index < length c.args.parts.now = omega arith in
    let more =
    joined_more length c.args.traces.now.entries c.args.parts.now
    c.loop-trace.trace-index c.loop-trace-item.result within c.loop-trace-item.is in
    let most =
    joined_le length c.args.traces.now.entries c.args.parts.now
    (c.loop-trace.trace-index + 1) in
    of_none _ _ c.from_residual-in_err-total.result c.from_residual-in_err-total.ensures
    (omega (arith, more, most, c.in_err-total.ensures, c.in_ok-spans_with.ensures))
