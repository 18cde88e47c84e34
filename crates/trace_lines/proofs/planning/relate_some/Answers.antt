use Rattle.std.proofs.Common.{ap, arith, length, ◌<◌, ◌∙◌}
use Rattle.std.specs.Arc.{arc_value}
use Rattle.trace_lines.specs.Plans.{kin_by, tree_of, tree_span, values}
use Rattle.trace_lines.proofs.Gathers.{kin_is, tree_at}
use Rattle.trace_lines.proofs.planning.relate_some.Goals as goal

pub loop-at-preserved : goal.loop-at-preserved
loop-at-preserved g c = λ gathered first.
    let spans = c.args.spans.now in
    let at = c.loop-at.at in
    let span = c.index-spans-at.result in
    let within : at < length spans = omega (arith, c.loop-at-test.true, c.min-until.ensures) in
    c.in_ok-add.ensures (tree_of (values spans)) at (tree_span (arc_value span))
    (c.loop-at.invariant gathered first)
    (tree_at spans at span within c.index-spans-at.is)
    (c.kin_of.ensures ∙ ap (kin_by c.args.known.now) c.deref.ensures
    ∙ kin_is (values spans) c.args.known.now (arc_value span) gathered)
