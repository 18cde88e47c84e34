-- No span is unaccounted for: what a run makes of the spans that end. (Trace SDK, Batching
-- processor; profile)
use Rattle.std.specs.Prelude.{◌≡◌, ℕ, ◌==◌, List, length, map, filter, filter_map, IsPermutation}
use Rattle.std.specs.Prelude.{Option, Some, None}
use Rattle.std.specs.List.{range_with_len}
use Rattle.model_span.specs.Attributes.{distinct_of}
use Rattle.model_span.specs.Spans.{SpanData}
use Rattle.model_desk.specs.Retries.{Outcome}
use Rattle.model_desk.specs.Queue.{last_batch, last_spans}
use Rattle.model_run.specs.Queues.{places}
use Rattle.model_run.specs.History.{Setup}
use Rattle.model_run.specs.Runs.{Answer, sent, Answered, ended_by, desk_events}
use Rattle.model_run.specs.Answers.{Progress, not_out, progress, last_attempt}

-- The numbers below n, in order: the tickets, where n spans ended.
abbrev pub numbers_below : ℕ → List ℕ
numbers_below n = range_with_len 0 n

-- Each sampled span that ended before the shutdown waits, or is in a batch that is out and was not
-- sent, or was handed to the exporter, or was dropped; once, and no other span is.
abbrev pub EachOnce : Setup → List Answered → Type 0
EachOnce setup history =
    IsPermutation (places (desk_events setup history))
    (numbers_below (length (ended_by setup history)))

-- a batch that is out: its number and its spans, where it is, and how many attempts it had
pub record PendingBatch : Type 0 where
  pub number : ℕ
  pub spans : List SpanData
  pub progress : Progress
  pub attempts : ℕ

abbrev pub pending_as : Progress → List SpanData → ℕ → ℕ → Option PendingBatch
pending_as not_out spans number attempts = None
pending_as p spans number attempts =
    Some (record { number = number; spans = spans; progress = p; attempts = attempts })

-- the batch that is out after these steps
abbrev pub pending_after : Setup → List Answered → Option PendingBatch
pending_after setup history =
    let events = desk_events setup history in
    pending_as (progress history) (last_spans events) (last_batch events) (last_attempt history)

-- an attempt to send a batch: the batch's number, which attempt it is, and what came of it
pub record Attempt : Type 0 where
  pub number : ℕ
  pub attempt : ℕ
  pub outcome : Outcome

abbrev pub attempt_by : Answer → Option Attempt
attempt_by (sent number attempt outcome) =
    Some (record { number = number; attempt = attempt; outcome = outcome })
attempt_by _ = None

-- the attempts of a history, in order
abbrev pub attempts : List Answered → List Attempt
attempts history = filter_map (λ x. attempt_by x.answer) history

-- of some attempts those of the batch with this number
abbrev pub attempts_with : ℕ → List Attempt → List Attempt
attempts_with number told = filter (λ a. a.number == number) told

-- the same of those of a history
abbrev pub attempts_of : ℕ → List Answered → List Attempt
attempts_of number history = attempts_with number (attempts history)

-- the distinct numbers of the batches that these attempts are of, in the order of their first ones
abbrev pub batch_numbers : List Attempt → List ℕ
batch_numbers told = distinct_of (λ n m. n == m) (map (λ a. a.number) told)

-- The attempts of each batch are numbered 1, 2, and so on. (profile)
abbrev pub AreNumbered : List Attempt → Type 0
AreNumbered told =
    (number : ℕ) → map (λ a. a.attempt) (attempts_with number told) ≡
    range_with_len 1 (length (attempts_with number told))
