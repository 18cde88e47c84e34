use Rattle.model_run.proofs.Steps.{events-are-allowed, none-unaccounted-for, handed-are-not-dropped}
use Rattle.model_run.proofs.Handed.{handed-are-the-batches}
use Rattle.model_run.proofs.Values.{ledger-names-the-dropped}
use Rattle.model_run.proofs.laws.none_is_unaccounted_for.Goals as goal

pub returns : goal.returns
returns c = record {
  allowed = events-are-allowed;
  once = none-unaccounted-for;
  batches = handed-are-the-batches;
  handed = handed-are-not-dropped;
  named = ledger-names-the-dropped;
}
