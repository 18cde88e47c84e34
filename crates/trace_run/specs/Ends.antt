-- The result of an end. (Trace API, End; Trace SDK, OnEnd)
use Rattle.std.specs.Prelude.{◌≡◌, ℕ, Bool, true, false, List, [], ◌∷◌, ◌++◌, Option, Some, None}
use Rattle.std.specs.Prelude.{IsTrue}
use Rattle.std.specs.List.{list_any}
use Rattle.model_span.specs.Sampling.{is_sampled}
use Rattle.model_span.specs.Spans.{Call, SpanData, end, is_end}
use Rattle.model_span.specs.Starts.{StartedSpan, exported_span}
use Rattle.trace_api.specs.Pass.{is_admission}
use Rattle.trace_api.specs.declared.pass.Ended.{Ended}
use Rattle.trace_api.specs.declared.pass.Ended.TheVariants as ends
use Rattle.trace_run.specs.declared.answer.Answer.{Answer}
use Rattle.trace_run.specs.declared.answer.Answer.TheVariants as answers

-- this is the answer, and no pass was asked
pub record AnswersAlone {P : Type 0} (said : Answer) (old : P) (answer : Answer) (new : P)
    : Type 0 where
  pub answered : answer ≡ said
  pub untouched : new ≡ old

-- the pass was asked for this span, and what it said is the answer
pub record AnswersPass {P : Type 0} (admits : P → SpanData → Ended → P → Type 0)
    (span : SpanData) (old : P) (answer : Answer) (new : P) : Type 0 where
  pub said : Ended
  pub answered : answer ≡ answers.Ended said
  pub asked : admits old span said new
  pub admission : IsTrue (is_admission said)

-- by whether the span had ended, and whether it is sampled
abbrev pub EndsBy : {P : Type 0} → (P → SpanData → Ended → P → Type 0) → Bool → Bool → SpanData
    → P → Answer → P → Type 0
EndsBy admits true sampled span old answer new =
    AnswersAlone (answers.Ended ends.AlreadyEnded) old answer new
EndsBy admits false false span old answer new =
    AnswersAlone (answers.Ended ends.NotSampled) old answer new
EndsBy admits false true span old answer new = AnswersPass admits span old answer new

-- The result of an end at this moment, on a span with these calls, if there is one: its first end
-- goes to the pass, where it is sampled.
abbrev pub EndsAs : {P : Type 0} → (P → SpanData → Ended → P → Type 0) → Option StartedSpan
    → List Call → ℕ → P → Answer → P → Type 0
EndsAs admits None calls at old answer new = AnswersAlone answers.NoSpan old answer new
EndsAs admits (Some s) calls at old answer new =
    EndsBy admits (list_any is_end calls) (is_sampled s.decision)
    (exported_span s (calls ++ end at ∷ [])) old answer new
