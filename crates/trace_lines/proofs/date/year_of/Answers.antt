use Rattle.std.proofs.Common.{◌∙◌, ◌+◌, ◌-◌, ◌<◌, ◌≤◌, ap, arith, subst, sym}
use Rattle.trace_lines.specs.Dates.{year_from}
use Rattle.trace_lines.proofs.Dates.{year_here, year_last, year_later}
use Rattle.trace_lines.proofs.date.year_of.Goals as goal

pub returns-then-day-length-clause-value : goal.returns-then-day-length-clause-value
returns-then-day-length-clause-value c =
    year_here 600 c.loop.counter c.loop.year c.loop.day c.loop-test.true
    (subst (λ n. c.loop.day < n) c.days_in_year-length.ensures c.if-day-length.true)
    ∙ c.loop.invariant.same

pub loop-preserved : goal.loop-preserved
loop-preserved c = record {
  same =
      ap (λ n. year_from (600 - (c.loop.counter + 1)) (c.loop.year + 1) (c.loop.day - n))
      c.days_in_year-length.ensures
      ∙ sym (year_later 600 c.loop.counter c.loop.year c.loop.day c.loop-test.true
      (subst (λ n. n ≤ c.loop.day) c.days_in_year-length.ensures c.if-day-length.false))
      ∙ c.loop.invariant.same;
  passed = let before = c.loop.invariant.passed in omega (arith, before);
  within = let before = c.loop.invariant.within in omega (arith, before);
}

pub returns-clause-value : goal.returns-clause-value
returns-clause-value c =
    year_last 600 c.loop.counter c.loop.year c.loop.day c.loop-test.false ∙ c.loop.invariant.same
