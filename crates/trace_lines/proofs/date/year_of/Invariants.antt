use Rattle.std.proofs.Common.{◌≡◌, ◌+◌, ◌-◌, ◌≤◌}
use Rattle.trace_lines.specs.Dates.{year_from, year_of}
use Rattle.trace_lines.proofs.date.year_of.Given as goal

-- the day is the same, counted from a later year
abbrev pub invariant-loop : goal.invariant-loop
invariant-loop l = record {
  same : year_from (600 - l.counter) l.year l.day ≡ year_of l.days;
  passed : l.year ≡ 1970 + l.counter;
  within : l.day ≤ l.days;
}
