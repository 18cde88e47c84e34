-- How the next span opens, before it has its place in a table.
use Rattle.std.specs.Prelude.{◌≡◌, ℕ, Bool, true, false, ◌&&◌, List, [], Option, Some, None}
use Rattle.std.specs.Prelude.{is_some, slice_get, Result, Ok, Err}
use Rattle.rand_core.specs.Stream.{Stream}
use Rattle.model_span.specs.Identifiers.{Words, words_after}
use Rattle.model_span.specs.Sampling.{SamplerMeaning}
use Rattle.model_span.specs.Spans.{Kind}
use Rattle.model_span.specs.Starts.{HeldSpan, StartedSpan, held_span}
use Rattle.model_run.specs.Steps.{Parent}
use Rattle.model_run.specs.History.{SpanStep, Setup, StartResult, start_result, start_results}
use Rattle.model_run.specs.History.{parent_among}
use Rattle.model_run.specs.Answers.{takes_memory}
use Rattle.otlp_ids.specs.WordStream.{words_of}
use Rattle.trace_run.specs.declared.answer.Answer.{Answer}
use Rattle.trace_run.specs.declared.answer.Answer.TheVariants as answers
use Rattle.trace_run.specs.Table.{IsTable, TableWith}

-- the span, or why there is none, where its scope and its parent are there or not
abbrev pub OpensAs : Bool → Option StartedSpan → Result HeldSpan Answer → Type 0
OpensAs there started (Ok span) = (s : StartedSpan) × (started ≡ Some s) × (span ≡ held_span s [])
OpensAs there started (Err answers.NoSpan) = (there ≡ false) × (started ≡ None)
OpensAs there started (Err answers.NoRandomness) = (there ≡ true) × (started ≡ None)
OpensAs there started (Err answers.OutOfMemory) =
    (s : StartedSpan) × (started ≡ Some s) × (takes_memory s ≡ true)
OpensAs there started (Err _) = ⊥

-- the result of a start, and the words that are left after it
pub record ComesTo (o : StartResult) (there : Bool) (before after : Words)
    (result : Result HeldSpan Answer) : Type 0 where
  pub words : after ≡ words_after o.spent before
  pub opens : OpensAs there o.span result

-- The span of a start comes from the words; it is not in the table yet.
pub record Opens {S R : Type 0} (meaning : S → SamplerMeaning) (stream : R → Stream) (scope : ℕ)
    (parent : Parent) (kind : Kind) (at : ℕ) (name : List ℕ) (old : TableWith S R)
    (result : Result HeldSpan Answer) (new : TableWith S R) : Type 0 where
  pub tracers : new.tracers ≡ old.tracers
  pub spans : new.spans ≡ old.spans
  pub room : new.room ≡ old.room
  pub comes : (setup : Setup) (steps : List SpanStep) → IsTable meaning stream setup steps old
      → let earlier = start_results setup steps in
      ComesTo (start_result setup earlier false scope parent kind at name)
      (is_some (slice_get setup.scopes scope) && is_some (parent_among earlier parent))
      (words_of (stream old.rng)) (words_of (stream new.rng)) result
