use Rattle.std.proofs.Common.{ap, arith, get_or, length, ◌≡◌, ◌∙◌}
use Rattle.std.proofs.lemmas.Option.{slice_get-get_or}
use Rattle.trace_tree.proofs.Arranged.{parents_length}
use Rattle.trace_tree.proofs.Ids.{nobody}
use Rattle.trace_tree.proofs.Stepping.{kin_is}
use Rattle.trace_tree.proofs.steps.known_of.Goals as goal

pub loop-index-init : goal.loop-index-init
loop-index-init g c = c.new-known.ensures c.args.spans.now

pub bounds-parents-index : goal.bounds-parents-index
bounds-parents-index g c =
    let size : length c.args.parents.now ≡ length c.args.spans.now =
    ap length c.requires ∙ parents_length c.args.spans.now in
    omega arith

pub loop-index-preserved : goal.loop-index-preserved
loop-index-preserved g c =
    let spans = c.args.spans.now in
    let index = c.loop-index.index in
    c.in_ok-add.ensures spans index (get_or spans index nobody) c.loop-index.invariant
    (slice_get-get_or spans index nobody c.loop-index-test.true)
    (kin_is spans c.args.parents.now index _ c.is_empty.result c.requires c.loop-index-test.true
    c.is_empty.ensures)
