use Rattle.std.proofs.Common.{◌≡◌, ◌∙◌, sym, ap, drop, false}
use Rattle.view_query.proofs.Parts.{part_later, rest_of}
use Rattle.view_query.specs.Matching.{is_front}
use Rattle.view_query.proofs.compare.contains.Goals as goal

pub loop-at-preserved : goal.loop-at-preserved
loop-at-preserved c =
    let none : is_front c.args.part.now (drop c.loop-at.at c.args.text.now) ≡ false =
    ap (is_front c.args.part.now) (sym (rest_of c.loop-at.at c.args.text.now))
    ∙ sym c.is_front.ensures ∙ c.if-is_front.false in
    part_later c.args.part.now c.args.text.now c.loop-at.at c.loop-at-test.true none
    ∙ c.loop-at.invariant
