use Rattle.law_export.proofs.Called.{after-the-end, first-end}
use Rattle.law_export.proofs.spans.end_laws.Goals as goal

pub returns : goal.returns
returns c = record {
  appended = after-the-end;
  first = first-end;
}
