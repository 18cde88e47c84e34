use Rattle.std.proofs.Common.{arith}
use Rattle.otlp_sampler.proofs.Identifiers.{random_part-is}
use Rattle.otlp_sampler.proofs.ratio.random_part.Goals as goal

pub returns-clause-value : goal.returns-clause-value
returns-clause-value c =
    omega (arith, c.from_be_bytes.ensures, random_part-is c.args.id.now c.requires)
