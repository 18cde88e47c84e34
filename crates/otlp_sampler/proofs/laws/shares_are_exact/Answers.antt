use Rattle.otlp_sampler.proofs.Shares.{exact}
use Rattle.otlp_sampler.proofs.laws.shares_are_exact.Goals as goal

pub returns : goal.returns
returns c = exact
