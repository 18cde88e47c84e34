-- What the worker of a batch processor knows of its batches. (Trace SDK, Batching processor, Span
-- Exporter; numbers, the ledger and fates: profile)
use Rattle.std.specs.Prelude.{ℕ, List, [], ◌∷◌, ◌++◌, map, filter_map, Option, Some, None, Bool}
use Rattle.std.specs.Prelude.{true, false}
use Rattle.std.specs.List.{flat_map}
use Rattle.model_span.specs.Spans.{SpanData}
use Rattle.model_span.specs.Dropped.{Reason, Entry, entry_of}
use Rattle.model_desk.specs.Retries.{Outcome, Fate}
use Rattle.model_desk.specs.Queue.{lost_names}

-- How a batch ended: it was handed to the exporter, with this body, in attempts with these
-- outcomes, and was settled with this fate; or it was dropped before.
pub data BatchEnd : Type 0 where
  settled : List ℕ → List Outcome → Fate → BatchEnd
  dropped : Reason → BatchEnd

-- a batch that has ended, under its number
pub record EndedBatch : Type 0 where
  pub number : ℕ
  pub spans : List SpanData
  pub ending : BatchEnd

-- A batch that is out: the body with which it was handed, if it was, and the outcomes of its
-- attempts so far.
pub record OutBatch : Type 0 where
  pub number : ℕ
  pub spans : List SpanData
  pub body : Option (List ℕ)
  pub outcomes : List Outcome

-- What the worker knows: the batches that have ended, in order, the one that is out, whether it was
-- answered that all is drained, and whether it has left.
pub record WorkerAccount : Type 0 where
  pub ended : List EndedBatch
  pub out : Option OutBatch
  pub drained : Bool
  pub left : Bool

-- a worker that has done nothing
abbrev pub new_worker : WorkerAccount
new_worker = record { ended = []; out = None; drained = false; left = false }

-- the worker has left
abbrev pub after_left : WorkerAccount → WorkerAccount
after_left account = record account { left = true }

-- ---- what it did with the spans

abbrev pub out_spans : Option OutBatch → List SpanData
out_spans None = []
out_spans (Some batch) = batch.spans

-- the spans of all batches, in order
abbrev pub taken_spans : WorkerAccount → List SpanData
taken_spans worker =
    flat_map (λ (b : EndedBatch). b.spans) worker.ended ++ out_spans worker.out

abbrev pub out_number : Option OutBatch → List ℕ
out_number None = []
out_number (Some batch) = batch.number ∷ []

-- the numbers of all batches, in order
abbrev pub numbers : WorkerAccount → List ℕ
numbers worker = map (λ (b : EndedBatch). b.number) worker.ended ++ out_number worker.out

abbrev pub spans_if_settled : BatchEnd → List SpanData → List SpanData
spans_if_settled (settled body outcomes fate) spans = spans
spans_if_settled (dropped reason) spans = []

abbrev pub spans_with : Option (List ℕ) → List SpanData → List SpanData
spans_with None spans = []
spans_with (Some body) spans = spans

-- the spans of the batch that is out, if it was handed
abbrev pub handed_out_spans : Option OutBatch → List SpanData
handed_out_spans None = []
handed_out_spans (Some batch) = spans_with batch.body batch.spans

abbrev pub spans_if_dropped : BatchEnd → List SpanData → List SpanData
spans_if_dropped (settled body outcomes fate) spans = []
spans_if_dropped (dropped reason) spans = spans

-- the spans of the batches that were handed and have ended, and of those that were dropped
abbrev pub handed_spans : WorkerAccount → List SpanData
handed_spans worker =
    flat_map (λ (b : EndedBatch). spans_if_settled b.ending b.spans) worker.ended

abbrev pub dropped_spans : WorkerAccount → List SpanData
dropped_spans worker =
    flat_map (λ (b : EndedBatch). spans_if_dropped b.ending b.spans) worker.ended

abbrev pub entries_by : BatchEnd → List SpanData → List Entry
entries_by (settled body outcomes fate) spans = []
entries_by (dropped reason) spans = map (entry_of reason) spans

-- the entries of the dropped spans
abbrev pub worker_entries : WorkerAccount → List Entry
worker_entries worker =
    flat_map (λ (b : EndedBatch). entries_by b.ending b.spans) worker.ended

abbrev pub lost_entries_by : BatchEnd → List SpanData → List Entry
lost_entries_by (settled body outcomes fate) spans = lost_names fate spans
lost_entries_by (dropped reason) spans = []

-- the entries of the lost spans: those of the handed batches whose fate loses them, each with its
-- fate's reason
abbrev pub worker_losses : WorkerAccount → List Entry
worker_losses worker =
    flat_map (λ (b : EndedBatch). lost_entries_by b.ending b.spans) worker.ended

abbrev pub fate_in : BatchEnd → Option Fate
fate_in (settled body outcomes fate) = Some fate
fate_in (dropped reason) = None

-- how the handed batches were settled, in order
abbrev pub fates : WorkerAccount → List Fate
fates worker = filter_map (λ (b : EndedBatch). fate_in b.ending) worker.ended
