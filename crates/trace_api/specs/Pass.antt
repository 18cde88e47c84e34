-- What ended spans go to. (Trace SDK, Span processor)
use Rattle.std.specs.Prelude.{◌≡◌, ℕ, ◌+◌, ◌-◌, ◌^◌, min, nat_lt, Bool, true, false, List, [], ◌∷◌}
use Rattle.std.specs.Prelude.{◌++◌, length, if◌then◌else◌}
use Rattle.model_span.specs.Spans.{SpanData, with_ticket}
use Rattle.otlp_span.specs.declared.reason.Reason.TheVariants.{QueueFull}
use Rattle.trace_api.specs.declared.pass.Ended.{Ended}
use Rattle.trace_api.specs.declared.pass.Ended.TheVariants.{Queued, Handed, Dropped, Late}
use Rattle.trace_api.specs.declared.pass.Ended.TheVariants.{NotSampled, AlreadyEnded}

-- an answer of one that was asked to take a span
abbrev pub is_admission : Ended → Bool
is_admission (Queued ticket) = true
is_admission (Handed ticket) = true
is_admission (Dropped ticket reason) = true
is_admission Late = true
is_admission NotSampled = false
is_admission AlreadyEnded = false

-- the spans that are kept for a body, how many may be, and how many more have ended
pub record Body : Type 0 where
  pub spans : List SpanData
  pub room : ℕ
  pub dropped : ℕ

-- a number of spans that have ended, which stops at the greatest of 64 bits (profile)
abbrev pub counted_spans : ℕ → ℕ
counted_spans n = min n (2 ^ 64 - 1)

-- the number of the next span that ends
abbrev pub next_ticket : Body → ℕ
next_ticket b = counted_spans (length b.spans + b.dropped)

abbrev pub has_room : Body → Bool
has_room b = nat_lt (length b.spans) b.room

-- A span is kept while there is room, and else dropped; the others stay.
abbrev pub answer_of : Body → Ended
answer_of b = if has_room b then Queued (next_ticket b) else Dropped (next_ticket b) QueueFull

abbrev pub with_span : Body → SpanData → Body
with_span b span =
    if has_room b then record b { spans = b.spans ++ with_ticket (next_ticket b) span ∷ [] }
    else record b { dropped = counted_spans (b.dropped + 1) }

pub record Admits (old : Body) (span : SpanData) (answer : Ended) (new : Body) : Type 0 where
  pub answered : answer ≡ answer_of old
  pub kept : new ≡ with_span old span
