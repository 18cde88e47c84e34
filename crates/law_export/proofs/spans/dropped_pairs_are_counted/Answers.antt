use Rattle.law_export.proofs.Kept.{others-dropped, all-add-up}
use Rattle.law_export.proofs.spans.dropped_pairs_are_counted.Goals as goal

pub returns : goal.returns
returns c = record {
  capped = others-dropped;
  exact = all-add-up;
}
