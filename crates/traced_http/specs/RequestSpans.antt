-- The span of a request in the hands of a handler. (Trace API, Span operations; which of them, and
-- counts: profile)
use Rattle.std.specs.Prelude.{◌≡◌, ℕ, ◌+◌, ◌⊎◌, true, false, List, Option, Some, None}
use Rattle.std.specs.Prelude.{Result, Ok, Err}
use Rattle.std.specs.List.{list_any}
use Rattle.model_span.specs.Spans.{Call, is_end}
use Rattle.model_span.specs.Starts.{Does, HeldSpan, is_recording_state}
use Rattle.trace_api.specs.Counts.{counted_requests}
use Rattle.trace_api.specs.ExtCalls.{DoesAll}

-- what a handler has of a request's span: the span, if the request has one, and how many calls on
-- it were left out for want of memory
pub record LentSpan : Type 0 where
  pub span : Option HeldSpan
  pub left_out : ℕ

-- a span as it is lent: no call was left out
abbrev pub lent_span : Option HeldSpan → LentSpan
lent_span span = record { span = span; left_out = 0 }

-- a count with this many more
abbrev pub counted : ℕ → ℕ
counted n = counted_requests n

-- how many calls were left out after one that was made or refused
abbrev pub left_out_after : {T E : Type 0} → Result T E → ℕ → ℕ
left_out_after (Ok done) n = n
left_out_after (Err fault) n = counted (n + 1)

-- A call on a span is made, or it is left out and counted. Only a call on a recorded span is left
-- out. Where there is no span, nothing changes.
abbrev pub MakesOrLeavesOut : Call → Option HeldSpan → Option HeldSpan → ℕ → ℕ → Type 0
MakesOrLeavesOut call (Some old) (Some new) n m =
    (Does call old new × (m ≡ n))
    ⊎ ((is_recording_state old.state ≡ true) × (new ≡ old) × (m ≡ counted (n + 1)))
MakesOrLeavesOut call None None n m = m ≡ n
MakesOrLeavesOut call (Some old) None n m = ⊥
MakesOrLeavesOut call None (Some new) n m = ⊥

-- what a call of a handler comes to
abbrev pub CallsSpan : Call → LentSpan → LentSpan → Type 0
CallsSpan call old new = MakesOrLeavesOut call old.span new.span old.left_out new.left_out

-- This is that span after more calls, none of which is an end.
pub record GoesOn (old new : HeldSpan) : Type 0 where
  pub more : List Call
  pub no_end : list_any is_end more ≡ false
  pub does : DoesAll more old new

-- the same where a request may have no span: there is one just where there was one
abbrev pub GoesOnIfAny : Option HeldSpan → Option HeldSpan → Type 0
GoesOnIfAny (Some old) (Some new) = GoesOn old new
GoesOnIfAny None None = Unit {0}
GoesOnIfAny (Some old) None = ⊥
GoesOnIfAny None (Some new) = ⊥
