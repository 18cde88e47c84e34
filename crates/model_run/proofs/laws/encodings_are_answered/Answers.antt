use Rattle.model_run.proofs.Encodings.{encoded-where-it-fits, dropped-unencoded}
use Rattle.model_run.proofs.Encodings.{dropped-batch-is-named}
use Rattle.model_run.proofs.laws.encodings_are_answered.Goals as goal

pub returns : goal.returns
returns c = record {
  fits = encoded-where-it-fits;
  dropped = dropped-unencoded;
  named = dropped-batch-is-named;
}
