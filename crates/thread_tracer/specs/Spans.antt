-- A span in the hands of a thread, and the calls on it.
use Rattle.std.specs.Prelude.{◌≡◌, ℕ, ◌+◌, Bool, true, Result, Ok, Err}
use Rattle.model_span.specs.Spans.{Call}
use Rattle.model_span.specs.Starts.{Does, HeldSpan, is_recording_state}
use Rattle.thread_tracer.specs.Counts.{counted}

-- a span of a thread: what the API has of it, whether it was started, and how many calls on it
-- were left out for want of memory
pub record SpanOfThread : Type 0 where
  pub span : HeldSpan
  pub is_started : Bool
  pub left_out : ℕ

-- the span after a call that is done, or that was refused
abbrev pub span_after : {T E : Type 0} → Result T E → SpanOfThread → SpanOfThread
span_after (Ok done) s = s
span_after (Err fault) s = record s { left_out = counted (s.left_out + 1) }

-- What a call comes to: it is made, or it is left out and counted. Only a call on a recorded span
-- is left out. (Trace API, Span operations; counts: profile)
pub data DoesOrLeavesOut (call : Call) (old new : SpanOfThread) : Type 0 where
  does : Does call old.span new.span → new ≡ record old { span = new.span }
      → DoesOrLeavesOut call old new
  leaves_out : is_recording_state old.span.state ≡ true
      → new ≡ record old { left_out = counted (old.left_out + 1) } → DoesOrLeavesOut call old new
