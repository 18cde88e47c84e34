use Rattle.std.proofs.Common.{arith, ◌≤◌, ◌^◌, subst, sym, Some, None}
use Rattle.page_text.proofs.Bounds.{two_below, two_small}
use Rattle.page_text.proofs.Steps.{same_text, small_by, too_small}
use Rattle.page_text.proofs.double.push_small.Goals as goal

pub returns-then-power-gt120 : goal.returns-then-power-gt120
returns-then-power-gt120 g c =
    same_text _ _ _ _ _
    (too_small c.args.mantissa c.args.power c.if-power-gt120.true) c.push_divided.ensures

pub pow-requires : goal.pow-requires
pow-requires g c = two_below c.args.power 120 c.if-power-gt120.false (omega arith)

pub shortest-requires-clause-two_small : goal.shortest-requires-clause-two_small
shortest-requires-clause-two_small g c =
    subst (λ n. n ≤ 2 ^ 120) (sym c.pow.ensures) (two_small c.args.power 120 c.if-power-gt120.false)

pub returns-in-Some : goal.returns-in-Some
returns-in-Some g c =
    same_text _ _ _ _ _
    (small_by c.args.mantissa c.args.power c.pow.result
    (Some c.in-Some.value) c.shortest.result c.if-power-gt120.false c.pow.ensures
    c.shortest.ensures.value c.in-Some.is)
    c.push_decimal.ensures

pub returns-in-None : goal.returns-in-None
returns-in-None g c =
    same_text _ _ _ _ _
    (small_by c.args.mantissa c.args.power c.pow.result None c.shortest.result
    c.if-power-gt120.false c.pow.ensures c.shortest.ensures.value c.in-None.is)
    c.push_divided-in-None.ensures
