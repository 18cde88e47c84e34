use Rattle.std.proofs.Common.{arith}
use Rattle.trace_store.proofs.SizeSteps.{array_counted, array_larger, pair_more, pairs_counted}
use Rattle.trace_store.proofs.SizeSteps.{pairs_larger}
use Rattle.trace_store.proofs.span_size.+size.Goals as goal

pub value_size-values_size-requires : goal.value_size-values_size-requires
value_size-values_size-requires g t c κs within =
    let larger =
    array_larger c.args.value.now c.in-Array.values c.deref.result.now c.in-Array.is
    c.deref.ensures.value in
    (omega (arith, larger, c.decreases), within)

pub value_size-pairs_size-requires : goal.value_size-pairs_size-requires
value_size-pairs_size-requires g t c κs within =
    let larger =
    pairs_larger c.args.value.now c.in-Pairs.pairs c.deref-in-Pairs.result.now c.in-Pairs.is
    c.deref-in-Pairs.ensures.value in
    (omega (arith, larger, c.decreases), within)

pub value_size-returns-in-Array : goal.value_size-returns-in-Array
value_size-returns-in-Array g t c =
    array_counted c.args.value.now c.in-Array.values c.deref.result.now c.values_size.result
    c.saturating_add-in-Array.result c.in-Array.is c.deref.ensures.value c.values_size.ensures
    c.saturating_add-in-Array.ensures

pub value_size-returns-in-Pairs : goal.value_size-returns-in-Pairs
value_size-returns-in-Pairs g t c =
    pairs_counted c.args.value.now c.in-Pairs.pairs c.deref-in-Pairs.result.now c.pairs_size.result
    c.saturating_add-in-Pairs.result c.in-Pairs.is c.deref-in-Pairs.ensures.value
    c.pairs_size.ensures c.saturating_add-in-Pairs.ensures

pub pairs_size-loop-key-preserved : goal.pairs_size-loop-key-preserved
pairs_size-loop-key-preserved g t c =
    pair_more c.args.pairs.now c.loop-key.key-index c.loop-key-item.result c.loop-key.total
    c.len.result c.saturating_add.result c.saturating_add-total.result c.value_size.result
    c.saturating_add-total-in-loop-key.result
    c.loop-key-test.true c.loop-key-item.is c.loop-key.invariant c.len.ensures
    c.saturating_add.ensures c.saturating_add-total.ensures c.value_size.ensures
    c.saturating_add-total-in-loop-key.ensures
