-- How a thread keeps what came of a start.
use Rattle.std.specs.Prelude.{◌≡◌, ◌+◌, ◌∷◌, true, false}
use Rattle.model_span.specs.Starts as starts
use Rattle.otlp_ids.specs.SpanContext.{context_view}
use Rattle.thread_tracer.specs.Counts.{counted}
use Rattle.thread_tracer.specs.Spans.{SpanOfThread}
use Rattle.thread_tracer.specs.Threads.{ThreadState}
use Rattle.thread_tracer.specs.declared.made.Made.{Made}
use Rattle.thread_tracer.specs.declared.made.Made.TheVariants.{Started, NotStarted}

-- a span that has started is only kept where there is room
abbrev pub NeedsRoom : {A : Type 0} → Made A → Type 0 → Type 0
NeedsRoom (Started span context) room = room
NeedsRoom (NotStarted context) room = Unit {0}

-- the span is the newest; or it isn't recorded, and is counted
abbrev pub Keeps : {S R C P A : Type 0} → Made A → ThreadState S R C P → SpanOfThread
    → ThreadState S R C P → Type 0
Keeps (Started span context) old kept new =
    (kept ≡ record { span = span; is_started = true; left_out = 0 })
    × (new ≡ record old { open_spans = context_view context ∷ old.open_spans })
Keeps (NotStarted context) old kept new =
    (kept ≡ record {
      span = record { context = context_view context; state = starts.not_recording };
      is_started = false;
      left_out = 0;
    })
    × (new ≡ record old { not_started = counted (old.not_started + 1) })
