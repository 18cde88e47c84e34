use Rattle.std.proofs.Common.{refl, subst, arith}
use Rattle.std.specs.Prelude.{All}
use Rattle.std.proofs.lemmas.List.{take_all}
use Rattle.std.proofs.lemmas.List.Elements.{All-more}
use Rattle.spool.specs.Settled.{IsEnded}
use Rattle.spool.proofs.rolling.are_ended.Goals as goal

pub loop-segment-preserved : goal.loop-segment-preserved
loop-segment-preserved c =
    All-more (IsEnded c.args.done) c.args.segments.now c.loop-segment.segment-index _
    c.loop-segment-test.true c.loop-segment.invariant
    (c.is_ended.ensures.0 c.if-not-is_ended.false)

pub returns : goal.returns
returns c = (
  λ _.
      subst (All (IsEnded c.args.done))
      (take_all c.loop-segment.segment-index c.args.segments.now
      (omega (arith, c.loop-segment-test.false)))
      c.loop-segment.invariant,
  λ _. refl,
)
