-- What settings of a sender and how far it is are in the model.
use Rattle.retry_core.specs.Retries.{outcome_view}
use Rattle.relay_queue.specs.Senders as model
use Rattle.relay_queue.specs.declared.send_config.SendConfig.{SendConfig}
use Rattle.relay_queue.specs.declared.stage.Stage.{Stage}
use Rattle.relay_queue.specs.declared.stage.Stage.TheVariants as stages

abbrev pub config_view : SendConfig → model.SendConfig
config_view c = record { retry = c.retry; attempts = c.attempts }

abbrev pub stage_view : Stage → model.Stage
stage_view stages.NoBatch = model.no_batch
stage_view stages.ToSend = model.to_send
stage_view (stages.ToJudge outcome) = model.to_judge (outcome_view outcome)
stage_view (stages.ToRetry moment) = model.to_retry moment
