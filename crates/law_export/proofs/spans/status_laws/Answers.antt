use Rattle.law_export.proofs.Called.{ok-is-final, unset-is-ignored, last-error, status-unset}
use Rattle.law_export.proofs.spans.status_laws.Goals as goal

pub returns : goal.returns
returns c = record {
  ok = ok-is-final;
  unset = unset-is-ignored;
  error = last-error;
  none = status-unset;
}
