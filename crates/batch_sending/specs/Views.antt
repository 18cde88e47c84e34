-- How far a batch is, in the model.
use Rattle.retry_core.specs.Retries.{outcome_view}
use Rattle.batch_sending.specs.Sendings as model
use Rattle.batch_sending.specs.declared.sending.Stage.{Stage}
use Rattle.batch_sending.specs.declared.sending.Stage.TheVariants as stages

abbrev pub stage_view : Stage → model.Stage
stage_view stages.ToSend = model.to_send
stage_view (stages.ToJudge attempt outcome) = model.to_judge attempt (outcome_view outcome)
stage_view (stages.ToRetry attempts from_then) = model.to_retry attempts from_then
