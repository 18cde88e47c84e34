-- Several calls on a span, one after the other. (Trace API, Span operations)
use Rattle.std.specs.Prelude.{◌≡◌, ◌<◌, ℕ, List, ◌++◌, length, take}
use Rattle.model_span.specs.Spans.{Call}
use Rattle.model_span.specs.Starts.{HeldSpan, StartedSpan, held_span}

-- Several calls more: what was a span after some calls is that span after these and all of those.
-- It keeps its context.
pub record DoesAll (more : List Call) (old new : HeldSpan) : Type 0 where
  pub context : new.context ≡ old.context
  pub value : (s : StartedSpan) (calls : List Call) → old ≡ held_span s calls
      → new ≡ held_span s (calls ++ more)

-- The first of these calls are made, and at least one isn't.
pub record DoesFirst (more : List Call) (old new : HeldSpan) : Type 0 where
  pub made : ℕ
  pub fewer : made < length more
  pub does : DoesAll (take made more) old new
