-- What calls on a span do.
use Rattle.std.specs.Prelude.{◌≡◌, ℕ, Bool, ◌&&◌, IsTrue, Option, Some, None, Result, Ok, Err}
use Rattle.model_span.specs.Spans.{SpanData, SpanRecord, Ends}
use Rattle.model_span.specs.Identifiers.{has_sampled_flag}
use Rattle.model_span.specs.Starts.{HeldSpan, SpanState, recording, not_recording, ended}
use Rattle.model_span.specs.Starts.{is_recording_state}
use Rattle.trace_api.specs.declared.pass.Ended.{Ended}
use Rattle.trace_api.specs.Pass.{is_admission}

-- the span is recorded, and this is so of what is
abbrev pub IsRecordingWith : (SpanRecord → Type 0) → SpanState → Type 0
IsRecordingWith holds (recording r) = holds r
IsRecordingWith holds not_recording = ⊥
IsRecordingWith holds ended = ⊥

-- The end of the span goes to a pass: it is recorded, and it is sampled. (Trace SDK, Sampling)
abbrev pub goes_to_pass : HeldSpan → Bool
goes_to_pass span = is_recording_state span.state && has_sampled_flag span.context.flags

-- A pass was asked for what is recorded, as it is after this end, and said what became of it.
pub record Asks {P : Type 0} (admits : P → SpanData → Ended → P → Type 0) (at : ℕ) (r : SpanRecord)
    (old : P) (answer : Ended) (new : P) : Type 0 where
  pub span : SpanData
  pub value : Ends at r span
  pub asked : admits old span answer new
  pub admission : IsTrue (is_admission answer)

-- this is said, and no pass was asked
pub record Says {P : Type 0} (said : Ended) (old : P) (answer : Ended) (new : P) : Type 0 where
  pub answered : answer ≡ said
  pub untouched : new ≡ old

-- if an end was answered, this is so of the answer
abbrev pub IfAnswered : {E : Type 0} → Result (Option Ended) E → (Ended → Type 0) → Type 0
IfAnswered (Ok (Some answer)) holds = holds answer
IfAnswered (Ok None) holds = Unit {0}
IfAnswered (Err fault) holds = Unit {0}
