use Rattle.std.proofs.Common.{ap, ◌∙◌, sym, get_or}
use Rattle.std.specs.BTreeMap.{get}
use Rattle.std.specs.Cmp.Lexicographic.{slice_cmp}
use Rattle.std.specs.Ordering.{nat_cmp}
use Rattle.trace_tree.proofs.Ids.{nobody, ids_new, ids_known}
use Rattle.trace_tree.proofs.parents.index_by_id.Goals as goal
use Rattle.trace_tree.proofs.parents.index_by_id.Goals.{then-not-contains_key+in_ok-insert}
use Rattle.trace_tree.proofs.parents.index_by_id.Goals.{else-not-contains_key}

pub loop-index-preserved : goal.loop-index-preserved
loop-index-preserved g c = λ id.
    let key = (get_or c.args.spans.now c.loop-index.index nobody).span_id in
    let old = get (λ x y. slice_cmp nat_cmp x.now y.now) c.loop-index.indices id in
    let new = get (λ x y. slice_cmp nat_cmp x.now y.now) c.if-not-contains_key.indices id in
    let found = get (λ x y. slice_cmp nat_cmp x.now y.now) c.loop-index.indices key in
    elim c.if-not-contains_key.branch [
      | then-not-contains_key+in_ok-insert w ↦
          ids_new c.args.spans.now c.loop-index.index nobody c.loop-index-test.true id.now old new
          found
          (c.loop-index.invariant key) (c.loop-index.invariant id)
          (sym c.contains_key.ensures ∙ w.if-not-contains_key.true)
          (ap (λ m. get (λ x y. slice_cmp nat_cmp x.now y.now) m id) w.indices-is
          ∙ w.in_ok-insert.ensures.updates.0 id)
      | else-not-contains_key w ↦
          ids_known c.args.spans.now c.loop-index.index nobody c.loop-index-test.true id.now old new
          found
          (c.loop-index.invariant key) (c.loop-index.invariant id)
          (sym c.contains_key.ensures ∙ w.if-not-contains_key.false)
          (ap (λ m. get (λ x y. slice_cmp nat_cmp x.now y.now) m id) w.indices-is)
    ]
