use Rattle.std.proofs.Common.{◌≡◌, ◌+◌, ◌-◌, ◌≤◌}
use Rattle.trace_lines.specs.Dates.{month_from, month_of}
use Rattle.trace_lines.proofs.date.month_of.Given as goal

-- the day is the same, counted from a later month
abbrev pub invariant-loop : goal.invariant-loop
invariant-loop l = record {
  same : month_from (11 - l.counter) l.date.year l.month l.day ≡ month_of l.date;
  passed : l.month ≡ 1 + l.counter;
  within : l.day ≤ l.date.day;
}
