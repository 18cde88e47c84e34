use Rattle.std.proofs.Common.{ℕ, ◌≡◌, ◌<◌, get_or, false}
use Rattle.otlp_sampler.specs.Decimal.{is_point}
use Rattle.otlp_sampler.proofs.decimal.point_of.Given as goal

abbrev pub invariant-bytes : goal.invariant-bytes
invariant-bytes l = record {
  before : (k : ℕ) → k < l.i → is_point (get_or l.mantissa k 0) ≡ false;
}
