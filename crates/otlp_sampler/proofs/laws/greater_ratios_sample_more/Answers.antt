use Rattle.otlp_sampler.proofs.Shares.{all, greater, none}
use Rattle.otlp_sampler.proofs.laws.greater_ratios_sample_more.Goals as goal

pub returns : goal.returns
returns c = record { greater = greater; none = none; all = all }
