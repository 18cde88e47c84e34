use Rattle.std.proofs.Common.{ap, arith, length, subst, sym, take, ◌<◌, ◌∙◌, ◌++◌, ◌∷◌, []}
use Rattle.trace_lines.specs.Plans.{AreGathered, values}
use Rattle.trace_lines.proofs.Gathers.{values_before, values_more}
use Rattle.trace_lines.proofs.gathered.Gathered.add_some.Goals as goal

pub loop-at-preserved : goal.loop-at-preserved
loop-at-preserved g c = λ h.
    let spans = c.args.spans.now in
    let at = c.loop-at.at in
    let within : at < length spans = omega (arith, c.loop-at-test.true, c.min-until.ensures) in
    subst (λ l. AreGathered l c.add.new.self)
    (ap (λ y. take at (values spans) ++ y ∷ []) c.deref.ensures
    ∙ sym (values_more spans at c.index-spans-at.result within c.index-spans-at.is))
    (c.in_ok-add.ensures (take at (values spans)) (c.loop-at.invariant h)
    (sym (values_before spans at (omega (arith, within)))))
