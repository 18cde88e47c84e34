-- A history in which a batch is sent again, and its outcome. (OTLP Specification, Retryable
-- Response Codes, OTLP/HTTP Throttling)
use Rattle.std.specs.Prelude.{ℕ, List, [], ◌∷◌, ◌++◌, Option, Some, map}
use Rattle.model_span.specs.Spans.{SpanData}
use Rattle.model_desk.specs.Retries.{Outcome, Next, later, seconds, again}
use Rattle.model_desk.specs.Queue.{DeskEvent, handed_spans}
use Rattle.model_desk.specs.Desks.{Desk}
use Rattle.model_run.specs.Queues.{places}
use Rattle.model_run.specs.Steps.{Step}
use Rattle.model_run.specs.Runs.{Answer, taken, encoded, sent, replied, Answered, desk_events}
use Rattle.model_run.specs.Headline.{PendingBatch, pending_after}
use Rattle.model_run.specs.Answers.{desk_after}
use Rattle.worked_sdk.specs.Worked.{queue_of, first, child, ends, started, queued, told}
use Rattle.worked_sdk.specs.Worked.{history_after}

-- the collector is busy, and asks for two seconds
abbrev pub busy : Outcome
busy = later 503 (Some (seconds 2))

-- A batch of one span is sent at 10, and the reply comes at one second. While it waits to be sent
-- again, another span ends.
abbrev pub waiting : List Answered
waiting =
    told first (started 3) ∷ told child (started 4) ∷ told (ends 0) (queued 0)
    ∷ told Step.flush Answer.flush ∷ told (Step.take 10) (taken 1 1)
    ∷ told Step.encode (encoded 1 70) ∷ told (Step.attempt 10) (sent 1 1 busy)
    ∷ told (Step.reply 1000000000 0) (replied 1 (again 3000000000))
    ∷ told (ends 1) (queued 1) ∷ []

-- At three seconds it is sent again, and delivered.
abbrev pub retried : List Answered
retried =
    waiting ++ told (Step.attempt 3000000000) (sent 1 2 Outcome.delivered)
    ∷ told (Step.reply 3000000000 0) (replied 1 Next.done) ∷ []

-- what its steps are answered
unfoldable pub retried_history : List Answered
unfolding history_after
retried_history = history_after (queue_of 4) [] [] (busy ∷ []) (map (λ x. x.step) retried)

-- what the queue shows while the batch waits
unfoldable pub waiting_desk : Desk
unfolding history_after
waiting_desk = desk_after (queue_of 4) waiting

-- the batch that is out meanwhile
unfoldable pub waiting_out : Option PendingBatch
unfolding history_after
waiting_out = pending_after (queue_of 4).setup waiting

-- what is done at the queue in all
unfoldable pub retried_events : List DeskEvent
unfolding history_after
retried_events = desk_events (queue_of 4).setup retried

-- the spans that were handed to the exporter
unfoldable pub retried_spans : List SpanData
unfolding retried_events
retried_spans = handed_spans retried_events

-- the tickets in all places
unfoldable pub retried_places : List ℕ
unfolding retried_events
retried_places = places retried_events
