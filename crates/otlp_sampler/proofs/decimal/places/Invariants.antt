use Rattle.std.proofs.Common.{◌≡◌, ◌^◌, ◌-◌, min, take}
use Rattle.std.specs.Str.Parse.{digits_value}
use Rattle.otlp_sampler.proofs.decimal.places.Given as goal

abbrev pub invariant-digits : goal.invariant-digits
invariant-digits l = record {
  is : l.number ≡ min (digits_value 10 (take l.digit-index l.digits)) (2 ^ 64 - 1);
}
