-- What answers are in the model.
use Rattle.std.specs.Prelude.{List, [], ◌∷◌}
use Rattle.retry_core.specs.Retries.{outcome_view, next_view}
use Rattle.otlp_span.specs.Dropped.{reason_view}
use Rattle.model_run.specs.Runs as model
use Rattle.model_run.specs.Runs.{Answered}
use Rattle.trace_api.specs.declared.pass.Ended.{Ended}
use Rattle.trace_api.specs.declared.pass.Ended.TheVariants as ends
use Rattle.trace_run.specs.Steps.{step_view}
use Rattle.trace_run.specs.declared.answer.Answer.{Answer}
use Rattle.trace_run.specs.declared.answer.Answer.TheVariants as answers
use Rattle.trace_run.specs.declared.step.Step.{Step as CodeStep}

abbrev pub ended_view : Ended → model.Ended
ended_view (ends.Queued ticket) = model.queued ticket
ended_view (ends.Handed ticket) = model.handed ticket
ended_view (ends.Dropped ticket reason) = model.Ended.dropped ticket (reason_view reason)
ended_view ends.Late = model.late
ended_view ends.NotSampled = model.not_sampled
ended_view ends.AlreadyEnded = model.already_ended

abbrev pub answer_view : Answer → model.Answer
answer_view (answers.Started trace span) =
    model.started (record { trace = trace.0; span = span.0 })
answer_view answers.NoRandomness = model.no_randomness
answer_view answers.OutOfMemory = model.out_of_memory
answer_view answers.NoSpan = model.no_span
answer_view answers.Done = model.done
answer_view (answers.Ended end) = model.ended (ended_view end)
answer_view answers.Flush = model.flush
answer_view answers.Shutdown = model.shutdown
answer_view (answers.Taken batch spans) = model.taken batch spans
answer_view answers.NotTaken = model.not_taken
answer_view (answers.Encoded batch length) = model.encoded batch length
answer_view (answers.Dropped batch reason) = model.Answer.dropped batch (reason_view reason)
answer_view (answers.Sent batch attempt outcome) = model.sent batch attempt (outcome_view outcome)
answer_view answers.Early = model.early
answer_view (answers.Replied batch next) = model.replied batch (next_view next)
answer_view answers.Nothing = model.nothing

-- steps with their answers
abbrev pub history_view : {A : Type 0} → List (CodeStep A) → List Answer → List Answered
history_view (step ∷ steps) (answer ∷ answers) =
    record { step = step_view step; answer = answer_view answer } ∷ history_view steps answers
history_view _ _ = []
