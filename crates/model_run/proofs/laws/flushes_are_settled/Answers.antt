use Rattle.model_run.proofs.Flushes.{settled-first, flushed-settled, shutdown-asks}
use Rattle.model_run.proofs.laws.flushes_are_settled.Goals as goal

pub returns : goal.returns
returns c = record { first = settled-first; flushed = flushed-settled; shutdown = shutdown-asks }
