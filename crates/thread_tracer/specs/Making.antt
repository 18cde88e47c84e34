-- What comes of a start, before it is counted.
use Rattle.std.specs.Prelude.{◌≡◌, List, ℕ, Option}
use Rattle.rand_core.specs.Stream.{Stream}
use Rattle.model_span.specs.Sampling.{SamplerMeaning, valid_parent}
use Rattle.model_span.specs.Spans.{Context, Kind}
use Rattle.model_span.specs.Starts.{ids_words}
use Rattle.otlp_ids.specs.SpanContext.{context_view}
use Rattle.otlp_ids.specs.WordStream.{Spends}
use Rattle.thread_tracer.specs.Made.{CarriesOn, MakerState, SpendsOrNone, StartsSpan}
use Rattle.thread_tracer.specs.declared.made.Made.{Made}
use Rattle.thread_tracer.specs.declared.made.Made.TheVariants.{Started, NotStarted}

-- no span has started
abbrev pub IsNotStarted : {A : Type 0} → Made A → Type 0
IsNotStarted (Started span context) = ⊥
IsNotStarted (NotStarted context) = Unit {0}

-- a span has started, and its context is given once more; or a context is in its place
abbrev pub Makes : {S R C A : Type 0} → (S → SamplerMeaning) → (R → Stream) → (C → ℕ → Type 0)
    → MakerState S R C → Option Context → List ℕ → Kind → Made A → MakerState S R C → Type 0
Makes meaning stream tells old parent name kind (Started span context) new =
    StartsSpan meaning stream tells old parent name kind span
    × (context_view context ≡ span.context)
    × Spends (ids_words (valid_parent parent)) (stream old.rng) (stream new.rng)
Makes meaning stream tells old parent name kind (NotStarted context) new =
    CarriesOn parent (context_view context) × SpendsOrNone stream parent old.rng new.rng
