-- Why ended spans aren't delivered, and what is kept of those that aren't. (profile)
use Rattle.std.specs.Prelude.{ℕ, ◌==◌, ◌++◌, List, Bool, true, false, count_by, codes, decimal}
use Rattle.model_span.specs.Spans.{SpanData}

pub data Reason : Type 0 where
  -- Its batch was not handed to the exporter: there was no room where ended spans wait, no memory
  -- to encode the batch, the batch was larger than a body may be, or who was to hand it on has
  -- left.
  queue_full encode_memory too_large abandoned : Reason
  -- Its batch was handed to the exporter, and: it was refused with this status,
  refused : ℕ → Reason
  -- its reply could not be read, no attempt succeeded, or who was to send it again has left.
  bad_reply given_up left_handed : Reason

-- whether the span's batch was handed to the exporter: then it is lost, else it is dropped
abbrev pub is_lost : Reason → Bool
is_lost (refused status) = true
is_lost bad_reply = true
is_lost given_up = true
is_lost left_handed = true
is_lost _ = false

-- Whether a batch may be dropped for this reason: only a span that ends where the queue is full is
-- dropped for that, and a batch that was handed is lost.
abbrev pub can_drop_batch : Reason → Bool
can_drop_batch encode_memory = true
can_drop_batch too_large = true
can_drop_batch abandoned = true
can_drop_batch _ = false

-- The name of a span that isn't delivered: its identifiers, its ticket, and why it isn't.
pub record Entry : Type 0 where
  pub trace : List ℕ
  pub span : List ℕ
  pub ticket : ℕ
  pub reason : Reason

-- the name of this span, not delivered for this reason
abbrev pub entry_of : Reason → SpanData → Entry
entry_of reason ended = record {
  trace = ended.span.context.trace;
  span = ended.span.context.span;
  ticket = ended.ticket;
  reason = reason;
}

-- whether they are the same reason
abbrev pub is_reason : Reason → Reason → Bool
is_reason queue_full queue_full = true
is_reason encode_memory encode_memory = true
is_reason too_large too_large = true
is_reason abandoned abandoned = true
is_reason (refused m) (refused n) = m == n
is_reason bad_reply bad_reply = true
is_reason given_up given_up = true
is_reason left_handed left_handed = true
is_reason _ _ = false

-- the word for it, and the status where there is one
abbrev pub reason_word : Reason → List ℕ
reason_word queue_full = codes "queue-full"
reason_word encode_memory = codes "encode-memory"
reason_word too_large = codes "too-large"
reason_word abandoned = codes "abandoned"
reason_word (refused status) = codes "refused " ++ decimal status
reason_word bad_reply = codes "bad-reply"
reason_word given_up = codes "attempts"
reason_word left_handed = codes "left"

-- how many of them have this reason
abbrev pub count_of_reason : Reason → List Entry → ℕ
count_of_reason reason entries = count_by (λ (e : Entry). is_reason reason e.reason) entries
