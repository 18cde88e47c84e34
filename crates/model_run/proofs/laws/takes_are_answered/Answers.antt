use Rattle.model_run.proofs.Answered.{taken-where-due, takes-the-first}
use Rattle.model_run.proofs.Steps.{taken-after-shutdown}
use Rattle.model_run.proofs.laws.takes_are_answered.Goals as goal

pub returns : goal.returns
returns c =
    record { due = taken-where-due; first = takes-the-first; shutdown = taken-after-shutdown }
