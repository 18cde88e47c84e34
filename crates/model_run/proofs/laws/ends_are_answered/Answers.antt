use Rattle.model_run.proofs.Answered.{late-after-shutdown, dropped-where-full, queued-where-room}
use Rattle.model_run.proofs.laws.ends_are_answered.Goals as goal

pub returns : goal.returns
returns c =
    record { late = late-after-shutdown; full = dropped-where-full; queued = queued-where-room }
