use Rattle.otel_settings.proofs.LastPairs.{counts}
use Rattle.otel_settings.proofs.laws.last_counts.Goals as goal

pub returns : goal.returns
returns c = counts
