use Rattle.std.proofs.Common.{◌∙◌, ◌+◌, ◌-◌, ◌<◌, ◌≤◌, ap, arith, subst, sym}
use Rattle.trace_lines.specs.Dates.{month_from}
use Rattle.trace_lines.proofs.Dates.{month_here, month_last, month_later}
use Rattle.trace_lines.proofs.date.month_of.Goals as goal

pub returns-then-day-length-clause-value : goal.returns-then-day-length-clause-value
returns-then-day-length-clause-value c =
    month_here 11 c.loop.counter c.args.date.year c.loop.month c.loop.day c.loop-test.true
    (subst (λ n. c.loop.day < n) c.days_in_month-length.ensures c.if-day-length.true)
    ∙ c.loop.invariant.same

pub loop-preserved : goal.loop-preserved
loop-preserved c = record {
  same =
      ap (λ n.
      month_from (11 - (c.loop.counter + 1)) c.args.date.year (c.loop.month + 1) (c.loop.day - n))
      c.days_in_month-length.ensures
      ∙ sym (month_later 11 c.loop.counter c.args.date.year c.loop.month c.loop.day c.loop-test.true
      (subst (λ n. n ≤ c.loop.day) c.days_in_month-length.ensures c.if-day-length.false))
      ∙ c.loop.invariant.same;
  passed = let before = c.loop.invariant.passed in omega (arith, before);
  within = let before = c.loop.invariant.within in omega (arith, before);
}

pub returns-clause-value : goal.returns-clause-value
returns-clause-value c =
    month_last 11 c.loop.counter c.args.date.year c.loop.month c.loop.day c.loop-test.false
    ∙ c.loop.invariant.same
