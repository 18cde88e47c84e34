use Rattle.std.proofs.Common.{◌∙◌, sym, ap}
use Rattle.page_text.proofs.Bounds.{ten_below, ten_more}
use Rattle.page_text.proofs.Steps.{decimal_of, near_here, near_later, near_none}
use Rattle.page_text.proofs.decimal.shortest.Goals as goal

pub is_near-requires-clause-ten : goal.is_near-requires-clause-ten
is_near-requires-clause-ten c =
    ten_below c.loop-places.ten c.loop-places.places c.loop-places.invariant.power
    c.loop-places-test.true

pub nearest-requires-clause-ten : goal.nearest-requires-clause-ten
nearest-requires-clause-ten c =
    ten_below c.loop-places.ten c.loop-places.places c.loop-places.invariant.power
    c.loop-places-test.true

pub returns-then-is_near-clause-value : goal.returns-then-is_near-clause-value
returns-then-is_near-clause-value c =
    ap (decimal_of c.loop-places.ten c.loop-places.places) c.nearest.ensures
    ∙ near_here 23 c.loop-places.places c.args.mantissa c.args.two c.loop-places.ten
    c.loop-places.places c.loop-places-test.true
    (sym c.is_near.ensures ∙ c.if-is_near.true)
    ∙ c.loop-places.invariant.same

pub loop-places-preserved : goal.loop-places-preserved
loop-places-preserved c = record {
  same =
      sym (near_later 23 c.loop-places.places c.args.mantissa c.args.two c.loop-places.ten
      c.loop-places.places c.loop-places-test.true
      (sym c.is_near.ensures ∙ c.if-is_near.false))
      ∙ c.loop-places.invariant.same;
  power = ten_more c.loop-places.ten c.loop-places.places c.loop-places.invariant.power;
}

pub returns-clause-value : goal.returns-clause-value
returns-clause-value c =
    near_none 23 c.loop-places.places c.args.mantissa c.args.two c.loop-places.ten
    c.loop-places.places c.loop-places-test.false
    ∙ c.loop-places.invariant.same
