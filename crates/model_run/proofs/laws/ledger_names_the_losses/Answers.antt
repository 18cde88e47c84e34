use Rattle.model_run.proofs.Ledgers.{lost-names-all, lost-add-up}
use Rattle.model_run.proofs.Losses.{losses-handed, reasons-apart}
use Rattle.model_run.proofs.laws.ledger_names_the_losses.Goals as goal

pub returns : goal.returns
returns c = record {
  unpopped = lost-names-all;
  popped = lost-add-up;
  handed = losses-handed;
  apart = reasons-apart;
}
