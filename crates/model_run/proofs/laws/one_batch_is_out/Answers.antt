use Rattle.model_run.proofs.OneBatch.{one-batch-is-out}
use Rattle.model_run.proofs.laws.one_batch_is_out.Goals as goal

pub returns : goal.returns
returns c = record { one = one-batch-is-out }
