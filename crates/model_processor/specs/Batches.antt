-- How a batch of a batch processor is sent, and how it ends. (Trace SDK, Batching processor, Span
-- Exporter; OTLP Specification, OTLP/HTTP; numbers and the greatest body: profile)
use Rattle.std.specs.Prelude.{◌≡◌, true, false, ℕ, ◌+◌, ◌≤◌, List, [], ◌∷◌, ◌++◌, length, Option}
use Rattle.std.specs.Prelude.{Some, None, IfSome}
use Rattle.std.specs.List.{AllByRecursion}
use Rattle.model_message.specs.Reading.{Reads}
use Rattle.model_message.specs.Messages.{body_meaning}
use Rattle.model_message.specs.Tables
use Rattle.model_message.specs.Canon.{canon}
use Rattle.model_span.specs.Spans.{SpanData}
use Rattle.model_span.specs.Dropped.{Reason}
use Rattle.model_export.specs.Export.{LacksBody, groups, grouped_triples, request_message}
use Rattle.model_desk.specs.Retries.{Outcome, Fate, abandoned, fate_of}
use Rattle.model_desk.specs.Waits.{RetryConfig, next_after}
use Rattle.model_desk.specs.Desks.{DeskConfig}
use Rattle.model_processor.specs.Worker.{WorkerAccount, EndedBatch, BatchEnd, settled, dropped}
use Rattle.model_processor.specs.Worker.{OutBatch}

-- What a processor began with: how many passes it has, its queue's sizes, how batches are sent
-- again, and how many bytes a body may have.
pub record Origin : Type 0 where
  pub passes : ℕ
  pub desk : DeskConfig
  pub retry : RetryConfig
  pub max_body : ℕ

-- ---- bodies

-- the bytes that a body of these spans has (which of the ways that Protocol Buffers allow: profile)
unfoldable pub canonical_body : List SpanData → List ℕ
unfolding request_message
canonical_body spans = canon Tables.request (request_message (groups spans))

-- The body means these spans, under their resources and scopes (OTLP Specification, OTLP/HTTP), and
-- it is the canonical one: of equal spans, bodies are equal (profile).
pub record IsBodyOf (spans : List SpanData) (body : List ℕ) : Type 0 where
  pub means : Reads (body_meaning body) (grouped_triples spans)
  pub canonical : body ≡ canonical_body spans

-- ---- attempts

-- The outcome of this attempt leads to another one, or settles the batch with this fate, whatever
-- the moment and the random word are. (OTLP Specification, OTLP/HTTP Response)
abbrev pub LeadsTo : RetryConfig → ℕ → Outcome → Option Fate → Type 0
LeadsTo retry attempt outcome end =
    (now word : ℕ) → fate_of (next_after retry attempt outcome now word) ≡ end

-- From this attempt on, each outcome leads to another attempt.
abbrev pub EachLeadsOn : RetryConfig → ℕ → List Outcome → Type 0
EachLeadsOn retry attempt [] = Unit {0}
EachLeadsOn retry attempt (outcome ∷ outcomes) =
    LeadsTo retry attempt outcome None × EachLeadsOn retry (attempt + 1) outcomes

-- A batch was handed with a body that means its spans, and is no longer than it may be. Each
-- outcome but the last led to another attempt, and there were as many as are configured at most.
pub record IsSent (origin : Origin) (spans : List SpanData) (body : List ℕ)
    (outcomes : List Outcome) : Type 0 where
  pub means : IsBodyOf spans body
  pub fits : length body ≤ origin.max_body
  pub earlier : List Outcome
  pub last : Outcome
  pub are : outcomes ≡ earlier ++ last ∷ []
  pub few : length outcomes ≤ origin.retry.attempts
  pub again : EachLeadsOn origin.retry 1 earlier

-- ---- a batch that ended by work

-- The last outcome settled the batch with this fate.
pub record IsSettled (origin : Origin) (spans : List SpanData) (body : List ℕ)
    (outcomes : List Outcome) (fate : Fate) : Type 0 where
  pub sent : IsSent origin spans body outcomes
  pub by_last : LeadsTo origin.retry (length outcomes) sent.last (Some fate)

-- How work ends a batch of these spans: as its last outcome says. One that has no body is dropped,
-- since memory was refused or the body would be longer than it may be.
abbrev pub IsEndByWork : Origin → List SpanData → BatchEnd → Type 0
IsEndByWork origin spans (settled body outcomes fate) =
    IsSettled origin spans body outcomes fate
IsEndByWork origin spans (dropped reason) = LacksBody origin.max_body spans reason

-- The batch has at least one span, and no more than a batch may have.
pub record IsByWork (origin : Origin) (batch : EndedBatch) : Type 0 where
  pub some : 1 ≤ length batch.spans
  pub few : length batch.spans ≤ origin.desk.batch
  pub ending : IsEndByWork origin batch.spans batch.ending

-- ---- a batch that work left out

-- What holds of the attempts that work made of a batch of these spans: there is none yet where the
-- batch was not handed.
abbrev pub IsSentSoFar : Origin → List SpanData → Option (List ℕ) → List Outcome → Type 0
IsSentSoFar origin spans None outcomes = outcomes ≡ []
IsSentSoFar origin spans (Some body) outcomes = IsSent origin spans body outcomes

-- The batch has at least one span, and no more than a batch may have.
pub record IsOutByWork (origin : Origin) (batch : OutBatch) : Type 0 where
  pub some : 1 ≤ length batch.spans
  pub few : length batch.spans ≤ origin.desk.batch
  pub sent : IsSentSoFar origin batch.spans batch.body batch.outcomes

-- A batch that is abandoned is dropped, or settled if it was handed. (profile)
abbrev pub end_of : Option (List ℕ) → List Outcome → BatchEnd
end_of None outcomes = dropped Reason.abandoned
end_of (Some body) outcomes = settled body outcomes abandoned

abbrev pub abandoned_end : OutBatch → BatchEnd
abandoned_end batch = end_of batch.body batch.outcomes

abbrev pub abandon_out : Option OutBatch → List EndedBatch
abandon_out None = []
abandon_out (Some batch) =
    record { number = batch.number; spans = batch.spans; ending = abandoned_end batch } ∷ []

-- A worker's final account: what it knows once the batch that is out is abandoned.
abbrev pub abandon : WorkerAccount → WorkerAccount
abandon worker = record worker { ended = worker.ended ++ abandon_out worker.out; out = None }

-- ---- all batches

-- How a worker's batches ended, by its final account: by work, but for one that was out when the
-- worker left or the processor was closed out. It was the last one, and was abandoned then.
pub record EndByWork (origin : Origin) (worker : WorkerAccount) : Type 0 where
  pub earlier : List EndedBatch
  pub last : Option OutBatch
  pub ended : worker.ended ≡ earlier ++ abandon_out last
  pub by_work : AllByRecursion (IsByWork origin) earlier
  pub out : IfSome last (IsOutByWork origin)
  pub none_out : worker.out ≡ None

-- Until a worker leaves, its batches ended by work alone. One that has left has none out.
pub record WorksUntilItLeaves (origin : Origin) (worker : WorkerAccount) : Type 0 where
  pub by_work : worker.left ≡ false → AllByRecursion (IsByWork origin) worker.ended
  pub none_out : worker.left ≡ true → worker.out ≡ None
