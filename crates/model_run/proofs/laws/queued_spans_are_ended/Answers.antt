use Rattle.model_run.proofs.Steps.{waiting-are-ended, batches-are-ended, drops-name-ended}
use Rattle.model_run.proofs.laws.queued_spans_are_ended.Goals as goal

pub returns : goal.returns
returns c =
    record { waiting = waiting-are-ended; batches = batches-are-ended; drops = drops-name-ended }
