-- No span is unaccounted for: the headline of a run. (Trace SDK, Batching processor; OTLP
-- Specification, OTLP/HTTP; profile)
use Rattle.std.specs.Prelude.{◌≡◌, ℕ, ◌<◌, ◌≤◌, List, map, slice_get, Option, Some}
use Rattle.std.specs.List.{AllByRecursion}
use Rattle.model_message.specs.Reading.{Reads}
use Rattle.model_message.specs.Messages.{body_meaning}
use Rattle.model_export.specs.Export.{groups, grouped_triples}
use Rattle.model_desk.specs.Queue.{batch_spans, last_batch}
use Rattle.model_run.specs.History.{Setup}
use Rattle.model_run.specs.Runs.{Answered, desk_events}
use Rattle.model_run.specs.Answers.{RunConfig}
use Rattle.model_run.specs.Headline.{EachOnce, Attempt, attempts, AreNumbered}
use Rattle.model_run.specs.Laws.{HandedAreTheBatches, WaitingAreEnded, BatchesAreEnded}
use Rattle.model_run.specs.Laws.{DropsNameEnded, LedgerNamesTheDropped}
use Rattle.otlp_proto.specs.Bodies.{body_bytes}
use Rattle.span_exporter.specs.Handed.{Handed, Gains}

-- the attempt that an exporter shows, without its body
abbrev pub told_attempt : Handed → Attempt
told_attempt handed = record {
  number = handed.number;
  attempt = handed.attempt;
  outcome = handed.outcome;
}

-- Its body, read as a request, is the spans of its batch under their resources and scopes. (OTLP
-- Specification, OTLP/HTTP; batches are numbered from 1 on: profile)
pub record MeansItsBatch (setup : Setup) (h : List Answered) (handed : Handed) : Type 0 where
  pub numbered : 0 < handed.number
  pub taken : handed.number ≤ last_batch (desk_events setup h)
  pub body : Reads (body_meaning handed.body)
      (grouped_triples (batch_spans (desk_events setup h) handed.number))

-- Two attempts of one batch have the same bytes. (OTLP Specification, Retryable Response Codes)
abbrev pub RepeatsBytes : List Handed → Type 0
RepeatsBytes more =
    (i j : ℕ) (a b : Handed) → slice_get more i ≡ Some a → slice_get more j ≡ Some b
    → a.number ≡ b.number → a.body ≡ b.body

-- The spans that wait, those of each batch, and those that were dropped are the spans that ended,
-- each with the ticket and the value that its calls made. (Trace API, End)
pub record AreAsEnded (setup : Setup) (history : List Answered) : Type 0 where
  pub waiting : WaitingAreEnded setup history
  pub batches : BatchesAreEnded setup history
  pub named : DropsNameEnded setup history

-- An exporter that shows its attempts has gained those that the answers speak of.
pub record IsTold (history : List Answered) (old new : Option (List Handed)) (more : List Handed)
    : Type 0 where
  pub gains : Gains more old new
  pub are : map told_attempt more ≡ attempts history

-- The distinct batches that were handed to the exporter, read by what OTLP means, with the spans
-- still queued and those that the ledger names as dropped, are exactly the sampled spans that the
-- history ended before the shutdown, each once, as the history means them; the attempts of a batch
-- are numbered 1, 2, and so on, and each has the same bytes. (profile)
pub record Headline (run : RunConfig) (history : List Answered) (old new : Option (List Handed))
    : Type 0 where
  pub each_once : EachOnce run.setup history
  pub values : AreAsEnded run.setup history
  pub ledger : LedgerNamesTheDropped run history
  pub more : List Handed
  pub told : IsTold history old new more
  pub handed : HandedAreTheBatches run.setup history (map told_attempt more)
  pub bodies : AllByRecursion (MeansItsBatch run.setup history) more
  pub numbered : AreNumbered (map told_attempt more)
  pub repeats : RepeatsBytes more

-- ---- the bytes

-- Its body is written as the canon has it: by this the length is known, and one batch has one body.
-- (profile)
abbrev pub IsCanonical : Setup → List Answered → Handed → Type 0
IsCanonical setup h handed =
    handed.body ≡ body_bytes (groups (batch_spans (desk_events setup h) handed.number))

-- So are all that an exporter that shows its attempts has gained.
pub record AreCanonical (run : RunConfig) (history : List Answered)
    (old new : Option (List Handed)) : Type 0 where
  pub more : List Handed
  pub told : IsTold history old new more
  pub bytes : AllByRecursion (IsCanonical run.setup history) more
