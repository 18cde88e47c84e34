-- What a thread's tracer has, and what its calls come to.
use Rattle.std.specs.Prelude.{◌≡◌, ◌≢◌, ℕ, ◌+◌, ◌⊎◌, true, false, List, ◌∷◌, Option}
use Rattle.rand_core.specs.Stream.{Stream}
use Rattle.model_span.specs.Sampling.{SamplerMeaning, valid_parent}
use Rattle.model_span.specs.Spans.{Context, Kind, SpanData}
use Rattle.model_span.specs.Starts as starts
use Rattle.model_span.specs.Starts.{HeldSpan, ids_words}
use Rattle.otlp_ids.specs.WordStream.{Spends}
use Rattle.trace_api.specs.Calls.{Asks, IsRecordingWith, Says, goes_to_pass}
use Rattle.trace_api.specs.declared.pass.Ended.{Ended}
use Rattle.trace_api.specs.declared.pass.Ended.TheVariants.{NotSampled, AlreadyEnded}
use Rattle.thread_tracer.specs.Counts.{counted}
use Rattle.thread_tracer.specs.Made.{CarriesOn, MakerState, SpendsOrNone, StartsSpan}
use Rattle.thread_tracer.specs.Open.{open_after}
use Rattle.thread_tracer.specs.Spans.{SpanOfThread}
use Rattle.thread_tracer.specs.declared.made.Maker.{Maker}
use Rattle.thread_tracer.specs.declared.tracer.ThreadTracer.{ThreadTracer}

-- what a thread's tracer has: what makes spans, its pass, the contexts of the open spans, the
-- newest first, and how many spans were not started and calls left out
pub record ThreadState (S R C P : Type 0) : Type 0 where
  pub maker : MakerState S R C
  pub pass : P
  pub open_spans : List Context
  pub not_started : ℕ
  pub left_out : ℕ

abbrev pub maker_state : {S R C A : Type 0} → Maker S R C A → MakerState S R C
maker_state m = record { tracer = m.tracer.now; rng = m.rng; clock = m.clock }

-- the same, of the tracer
abbrev pub thread_state : {S R C P A : Type 0} → ThreadTracer S R C P A → ThreadState S R C P
thread_state t = record {
  maker = maker_state t.maker;
  pass = t.pass.now;
  open_spans = t.open_spans.contexts;
  not_started = t.refused.not_started;
  left_out = t.refused.left_out;
}

module _ {S R C P : Type 0} (meaning : S → SamplerMeaning) (stream : R → Stream)
    (tells : C → ℕ → Type 0) where
  -- The span has started, is the newest, and is not counted.
  pub record Starts (parent : Option Context) (name : List ℕ) (kind : Kind)
      (old : ThreadState S R C P) (span : SpanOfThread) (new : ThreadState S R C P)
      : Type 0 where
    pub starts : StartsSpan meaning stream tells old.maker parent name kind span.span
    pub spent : Spends (ids_words (valid_parent parent)) (stream old.maker.rng)
        (stream new.maker.rng)
    pub span_is : span ≡ record { span = span.span; is_started = true; left_out = 0 }
    pub state : new ≡ record old {
      maker = record old.maker { rng = new.maker.rng };
      open_spans = span.span.context ∷ old.open_spans;
    }

  -- It isn't recorded, carries on the context of its parent, and is counted.
  pub record StartsNone (parent : Option Context)
      (old : ThreadState S R C P) (span : SpanOfThread) (new : ThreadState S R C P)
      : Type 0 where
    pub carries : CarriesOn parent span.span.context
    pub spent : SpendsOrNone stream parent old.maker.rng new.maker.rng
    pub span_is : span ≡ record {
      span = record { context = span.span.context; state = starts.not_recording };
      is_started = false;
      left_out = 0;
    }
    pub state : new ≡ record old {
      maker = record old.maker { rng = new.maker.rng };
      not_started = counted (old.not_started + 1);
    }

  -- what a start comes to: one of these (Trace API, Span Creation; counts: profile)
  abbrev pub StartsOrCounts : Option Context → List ℕ → Kind → ThreadState S R C P
      → SpanOfThread → ThreadState S R C P → Type 0
  StartsOrCounts parent name kind old span new =
      Starts parent name kind old span new ⊎ StartsNone parent old span new

-- A span ends at a moment: the pass takes it where it is recorded and sampled, and else isn't
-- asked. (Trace API, End; Trace SDK, Sampling, OnEnd)
pub record EndsOn {P : Type 0} (admits : P → SpanData → Ended → P → Type 0) (at : ℕ)
    (span : HeldSpan) (old : P) (answer : Ended) (new : P) : Type 0 where
  pub already_ended : span.state ≡ starts.ended → Says AlreadyEnded old answer new
  pub not_sampled : span.state ≢ starts.ended → goes_to_pass span ≡ false
      → Says NotSampled old answer new
  pub sampled : goes_to_pass span ≡ true
      → IsRecordingWith (λ r. Asks admits at r old answer new) span.state

-- The span ends at a moment that the clock tells. It is no longer open, and the calls on it that
-- were left out are counted. (counts: profile)
pub record EndsSpan {S R C P : Type 0} (tells : C → ℕ → Type 0)
    (admits : P → SpanData → Ended → P → Type 0) (span : SpanOfThread)
    (old : ThreadState S R C P) (answer : Ended) (new : ThreadState S R C P) : Type 0 where
  pub at : ℕ
  pub told : tells old.maker.clock at
  pub ends : EndsOn admits at span.span old.pass answer new.pass
  pub state : new ≡ record old {
    pass = new.pass;
    open_spans = open_after span.is_started span.span.context old.open_spans;
    left_out = counted (old.left_out + span.left_out);
  }
