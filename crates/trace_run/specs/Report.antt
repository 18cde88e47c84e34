-- What a run leaves, and what is left of it once it is closed. (profile)
use Rattle.std.specs.Prelude.{List, Option, Some, None, if◌then◌else◌}
use Rattle.model_span.specs.Dropped as dropped
use Rattle.model_desk.specs.Retries as retries
use Rattle.model_desk.specs.Desks.{Desk, after_settled}
use Rattle.batch_desk.specs.Desk.{after_drop}
use Rattle.rand_core.specs.Stream.{Stream}
use Rattle.model_span.specs.Sampling.{SamplerMeaning}
use Rattle.model_run.specs.Runs.{Answered}
use Rattle.model_run.specs.Answers as model
use Rattle.trace_run.specs.Answers.{history_view}
use Rattle.trace_run.specs.declared.answer.Answer.{Answer}
use Rattle.trace_run.specs.declared.step.Step.{Step}
use Rattle.trace_run.specs.declared.config.RunConfig.{RunConfig}
use Rattle.trace_run.specs.Run.{run_config}
use Rattle.trace_run.specs.Out.{Out, is_sent}

pub record Report : Type 0 where
  pub answers : List Answer
  pub desk : Desk
  pub out : Option Out

-- It holds of the run of these steps that left this.
abbrev pub OfRun : {S R A : Type 0} → (S → SamplerMeaning) → (R → Stream) → RunConfig S R A
    → List (Step A) → (model.RunConfig → List Answered → Type 0) → Report → Type 0
OfRun meaning stream config steps holds report =
    holds (run_config meaning stream config) (history_view steps report.answers)

-- A batch that was handed to the exporter is settled, by which its spans are lost, and another one
-- is dropped.
abbrev pub closed_with : Out → Desk → Desk
closed_with o desk =
    if is_sent o.sending
    then after_settled retries.Fate.abandoned o.batch.spans desk
    else after_drop dropped.abandoned o.batch.spans desk

abbrev pub closed_as : Option Out → Desk → Desk
closed_as None desk = desk
closed_as (Some o) desk = closed_with o desk

abbrev pub after_close : Report → Desk
after_close report = closed_as report.out report.desk
