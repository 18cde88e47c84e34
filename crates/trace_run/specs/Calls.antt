-- What a call makes of one span among those of a table.
use Rattle.std.specs.Prelude.{◌≡◌, ◌≢◌, ℕ, true, false, List, Option, Some, None, IfSome, slice_set}
use Rattle.model_span.specs.Spans.{Call, SpanData, end, end_of, is_end}
use Rattle.model_span.specs.Starts.{Does, HeldSpan, ended, is_recording_state}
use Rattle.model_run.specs.Answers.{has_text}
use Rattle.trace_api.specs.Calls.{Asks, IsRecordingWith, Says, goes_to_pass}
use Rattle.trace_api.specs.declared.pass.Ended.{Ended}
use Rattle.trace_api.specs.declared.pass.Ended.TheVariants as ends
use Rattle.trace_run.specs.declared.answer.Answer.{Answer}
use Rattle.trace_run.specs.declared.answer.Answer.TheVariants as answers

-- A call that is no end was made, or there was no room for what it takes and nothing changed.
abbrev pub MadeAs : Call → HeldSpan → HeldSpan → Answer → Type 0
MadeAs c old new answers.Done = Does c old new
MadeAs c old new answers.OutOfMemory =
    (is_recording_state old.state ≡ true) × (has_text c ≡ true) × (new ≡ old)
MadeAs c old new _ = ⊥

-- the end of a span, and what the pass says to it
pub record EndsSpan {P : Type 0} (admits : P → SpanData → Ended → P → Type 0) (at : ℕ)
    (old : HeldSpan) (before : P) (answer : Answer) (new : HeldSpan) (after : P) : Type 0 where
  pub does : Does (end at) old new
  pub said : Ended
  pub answered : answer ≡ answers.Ended said
  pub already_ended : old.state ≡ ended → Says ends.AlreadyEnded before said after
  pub not_sampled : old.state ≢ ended → goes_to_pass old ≡ false
      → Says ends.NotSampled before said after
  pub sampled : goes_to_pass old ≡ true
      → IsRecordingWith (λ r. Asks admits at r before said after) old.state

-- a call on one span
pub record CallsSpan {P : Type 0} (admits : P → SpanData → Ended → P → Type 0) (c : Call)
    (old : HeldSpan) (before : P) (answer : Answer) (new : HeldSpan) (after : P) : Type 0 where
  pub made : is_end c ≡ false → MadeAs c old new answer
  pub asks_nothing : is_end c ≡ false → after ≡ before
  pub ended : IfSome (end_of c) (λ at. EndsSpan admits at old before answer new after)

-- there is no span to call
pub record Misses {P : Type 0} (olds : List (Option HeldSpan)) (before : P) (answer : Answer)
    (news : List (Option HeldSpan)) (after : P) : Type 0 where
  pub answered : answer ≡ answers.NoSpan
  pub spans : news ≡ olds
  pub untouched : after ≡ before

-- a call on the span of this number, by what is in its slot
abbrev pub CallsAmong : {P : Type 0} → (P → SpanData → Ended → P → Type 0) → ℕ → Call
    → Option (Option HeldSpan) → List (Option HeldSpan) → P → Answer → List (Option HeldSpan) → P
    → Type 0
CallsAmong admits n c (Some (Some span)) olds before answer news after =
    (new : HeldSpan) × (news ≡ slice_set olds n (Some new))
    × CallsSpan admits c span before answer new after
CallsAmong admits n c (Some None) olds before answer news after =
    Misses olds before answer news after
CallsAmong admits n c None olds before answer news after = Misses olds before answer news after
