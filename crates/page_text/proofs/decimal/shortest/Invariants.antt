use Rattle.std.proofs.Common.{◌≡◌, ◌-◌, ◌^◌}
use Rattle.page_text.specs.Doubles.{decimal_from, shortest}
use Rattle.page_text.proofs.decimal.shortest.Given as goal

-- the decimals before aren't near
abbrev pub invariant-loop-places : goal.invariant-loop-places
invariant-loop-places l = record {
  same : decimal_from (23 - l.places) l.mantissa l.two l.ten l.places ≡ shortest l.mantissa l.two;
  power : l.ten ≡ 10 ^ l.places;
}
