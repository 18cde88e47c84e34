-- The spans of a thread that were started and haven't ended. (Trace API, Context interaction; by
-- thread: profile)
use Rattle.std.specs.Prelude.{◌&&◌, ℕ, Bool, true, false, List, bytes_eq, position, remove}
use Rattle.std.specs.Option.{option_map_or}
use Rattle.model_span.specs.Spans.{Context}

-- the contexts of a thread's open spans, the newest first, and for how many there is room
pub record OpenContexts : Type 0 where
  pub contexts : List Context
  pub room : ℕ

-- both are contexts of one span (Trace API, SpanContext)
abbrev pub is_same_span : Context → Context → Bool
is_same_span a b = bytes_eq a.trace b.trace && bytes_eq a.span b.span

-- The contexts without that of this span; were there several, without the newest of them.
abbrev pub without_span : Context → List Context → List Context
without_span c spans =
    option_map_or (λ place. remove spans place) (position (is_same_span c) spans) spans

-- The contexts after a span has ended: without its own, if it was started.
abbrev pub open_after : Bool → Context → List Context → List Context
open_after true c spans = without_span c spans
open_after false c spans = spans
