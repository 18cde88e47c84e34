use Rattle.law_export.proofs.Kept.{last-pair}
use Rattle.law_export.proofs.spans.last_value_counts.Goals as goal

pub returns : goal.returns
returns c = last-pair
