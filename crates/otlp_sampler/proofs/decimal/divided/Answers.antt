use Rattle.otlp_sampler.proofs.Exponents.{once_more}
use Rattle.otlp_sampler.proofs.decimal.divided.Goals as goal

pub places-preserved : goal.places-preserved
places-preserved c =
    record {
      is = once_more c.places.count c.places.places _ c.places.invariant.is c.places-test.true;
    }
