use Rattle.std.proofs.Common.{◌≡◌, ◌<◌, ◌≤◌, ◌^◌, ◌++◌, drop, length}
use Rattle.std.specs.Str.Parse.{digits_value}
use Rattle.otlp_sampler.specs.Ratio.{share}
use Rattle.otlp_sampler.proofs.decimal.count_of_fraction.Given as goal

abbrev pub invariant-digits : goal.invariant-digits
invariant-digits l = record {
  is : l.count
      ≡ share (digits_value 10 (drop l.i (l.whole ++ l.fraction)))
      (10 ^ length (drop l.i (l.whole ++ l.fraction)));
  small : l.count < 2 ^ 56;
  from : l.fn.point ≤ l.i;
}
