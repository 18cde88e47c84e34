use Rattle.std.proofs.Common.{refl}
use Rattle.trace_tree.proofs.Walking.{walking_more}
use Rattle.trace_tree.proofs.cycles.walk.Goals as goal

pub loop-marks-preserved : goal.loop-marks-preserved
loop-marks-preserved c =
    walking_more c.args.parents.now c.args.marks.now c.args.start c.loop-marks.marks c.loop-marks.at
    c.loop-marks.invariant
    c.in-Some.parent c.in-Some.is (c.requires.in_list.each _ _ c.in-Some.is)
    (c.loop-marks-test.ensures.cases.0 refl)
