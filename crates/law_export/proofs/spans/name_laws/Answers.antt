use Rattle.law_export.proofs.Called.{last-name, first-name}
use Rattle.law_export.proofs.spans.name_laws.Goals as goal

pub returns : goal.returns
returns c = record {
  last = last-name;
  none = first-name;
}
