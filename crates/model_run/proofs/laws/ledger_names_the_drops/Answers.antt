use Rattle.model_run.proofs.Ledgers.{ledger-names, ledger-and-popped}
use Rattle.model_run.proofs.laws.ledger_names_the_drops.Goals as goal

pub returns : goal.returns
returns c = record { unpopped = ledger-names; popped = ledger-and-popped }
