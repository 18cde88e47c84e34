-- How a span starts for a thread, and what is in its place where it doesn't.
use Rattle.std.specs.Prelude.{◌≡◌, ℕ, ◌⊎◌, List, [], replicate, false, Option, Some, None}
use Rattle.rand_core.specs.Stream.{Stream}
use Rattle.model_span.specs.Sampling.{SamplerMeaning, valid_parent}
use Rattle.model_span.specs.Spans.{Context, Kind}
use Rattle.model_span.specs.Starts.{HeldSpan, StartedSpan, held_span, ids_words, start_request}
use Rattle.model_span.specs.Starts.{started_span}
use Rattle.otlp_ids.specs.WordStream.{Spends, words_of}
use Rattle.trace_api.specs.Starts.{TracerWith, tracer_view}

-- the context of no span (Trace API, SpanContext, IsValid)
abbrev pub invalid_context : Context
invalid_context = record {
  trace = replicate 16 0;
  span = replicate 8 0;
  flags = 0;
  remote = false;
  state = [];
}

-- the context that a span without one of its own carries on: that of its parent, if it has one
-- (Trace API, Behavior of the API in the absence of an installed SDK)
abbrev pub carried_context : Option Context → Context
carried_context None = invalid_context
carried_context (Some c) = c

-- This context is that one, with its trace state or without. (W3C Trace Context, tracestate: that
-- it may be left out; profile)
abbrev pub IsCarried : Context → Context → Type 0
IsCarried c carried = (carried ≡ c) ⊎ (carried ≡ record c { state = [] })

-- it carries on what a span with this parent does
abbrev pub CarriesOn : Option Context → Context → Type 0
CarriesOn parent c = IsCarried (carried_context (valid_parent parent)) c

-- what makes the spans of a thread
pub record MakerState (S R C : Type 0) : Type 0 where
  pub tracer : TracerWith S
  pub rng : R
  pub clock : C

-- The span starts at a moment that the clock tells, from the words that the generator gives.
pub record StartsSpan {S R C : Type 0} (meaning : S → SamplerMeaning) (stream : R → Stream)
    (tells : C → ℕ → Type 0) (old : MakerState S R C) (parent : Option Context)
    (name : List ℕ) (kind : Kind) (span : HeldSpan) : Type 0 where
  pub at : ℕ
  pub told : tells old.clock at
  pub s : StartedSpan
  pub started : started_span (tracer_view meaning old.tracer) (start_request parent name kind at)
      (words_of (stream old.rng)) ≡ Some s
  pub held : span ≡ held_span s []

-- the words that a start draws are spent, or none is
abbrev pub SpendsOrNone : {R : Type 0} → (R → Stream) → Option Context → R → R → Type 0
SpendsOrNone stream parent old new =
    Spends (ids_words (valid_parent parent)) (stream old) (stream new) ⊎ (new ≡ old)
