use Rattle.std.proofs.Common.{ap, sym, subst, refl, ◌<◌, length, set, arith}
use Rattle.std.proofs.lemmas.Bool.{false≢true}
use Rattle.trace_tree.specs.Walks.{is_seen}
use Rattle.trace_tree.specs.declared.cycles.Mark.TheVariants.{Unseen, OnCycle}
use Rattle.trace_tree.proofs.Sets.{fewer_pass}
use Rattle.trace_tree.proofs.Rounding.{IsRounding, rounding_more, rounded}
use Rattle.trace_tree.proofs.cycles.first_of_cycle.Goals as goal

pub loop-marks-smaller : goal.loop-marks-smaller
loop-marks-smaller c =
    let within : c.loop-marks.at < length c.loop-marks.marks = omega arith in
    fewer_pass is_seen c.loop-marks.marks c.loop-marks.at OnCycle Unseen within
    (ap is_seen (c.loop-marks-test.ensures.0 refl)) refl

pub loop-marks-preserved : goal.loop-marks-preserved
loop-marks-preserved c =
    subst (λ m. IsRounding c.args.parents.now c.args.marks.now
    (set c.loop-marks.marks c.loop-marks.at OnCycle) c.args.start c.args.entry m c.in-Some.parent)
    (sym c.min-first.ensures)
    (rounding_more c.args.parents.now c.args.marks.now c.args.start c.args.entry c.requires.round
    c.loop-marks.marks c.loop-marks.first c.loop-marks.at
    c.loop-marks.invariant c.in-Some.parent c.in-Some.is (c.requires.in_list.each _ _ c.in-Some.is))

pub returns-clause-opens : goal.returns-clause-opens
returns-clause-opens c =
    rounded c.args.parents.now c.args.marks.now c.args.start c.args.entry c.requires.round
    c.loop-marks.marks c.loop-marks.first c.loop-marks.at
    c.loop-marks.invariant (λ e. false≢true (c.loop-marks-test.ensures.1 e))
