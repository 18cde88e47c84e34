use Rattle.std.proofs.Common.{◌≡◌, ◌≤◌, ◌++◌, take}
use Rattle.std.specs.Str.Parse.{digits_value}
use Rattle.otlp_sampler.proofs.decimal.at_most_one.Given as goal

abbrev pub invariant-digits : goal.invariant-digits
invariant-digits l = record {
  is : l.number ≡ digits_value 10 (take l.i (l.whole ++ l.fraction));
  small : l.number ≤ 1;
}
