use Rattle.std.proofs.Common.{◌≡◌, ◌^◌, ◌/◌}
use Rattle.otlp_sampler.proofs.decimal.divided.Given as goal

abbrev pub invariant-places : goal.invariant-places
invariant-places l = record {
  is : l.fn.count / 10 ^ l.fn.places ≡ l.count / 10 ^ l.places;
}

abbrev pub decreases-places : goal.decreases-places
decreases-places l = l.places
