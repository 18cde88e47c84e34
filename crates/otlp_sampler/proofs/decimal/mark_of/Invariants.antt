use Rattle.std.proofs.Common.{ℕ, ◌≡◌, ◌<◌, get_or, false}
use Rattle.otlp_sampler.specs.Decimal.{is_exponent_mark}
use Rattle.otlp_sampler.proofs.decimal.mark_of.Given as goal

abbrev pub invariant-bytes : goal.invariant-bytes
invariant-bytes l = record {
  before : (k : ℕ) → k < l.i → is_exponent_mark (get_or l.text k 0) ≡ false;
}
