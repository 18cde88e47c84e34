use Rattle.law_export.proofs.Rowed.{one-row}
use Rattle.law_export.proofs.spans.one_row.Goals as goal

pub returns : goal.returns
returns c = one-row
