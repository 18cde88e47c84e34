-- What a program does with spans and with the batch processor that they end in. (Trace API; Trace
-- SDK, Batching processor)
use Rattle.std.specs.Prelude.{ℕ, Bool, true, false, List}
use Rattle.model_span.specs.Spans.{Context, Kind, Call}

-- the parent that a start names
pub data Parent : Type 0 where
  -- none
  root : Parent
  -- the span with this number
  numbered : ℕ → Parent
  -- a span of elsewhere
  given : Context → Parent

-- Spans are numbered from 0 on by their starts, those too that give no span. Moments are in
-- nanoseconds since 1970.
pub data Step : Type 0 where
  -- the number of the scope, the parent, the kind, the moment and the name
  start : ℕ → Parent → Kind → ℕ → List ℕ → Step
  -- the number of the span, and the call, which may be its end
  call : ℕ → Call → Step
  -- (Trace SDK, ForceFlush, Shutdown)
  flush shutdown : Step
  -- at this moment, the next batch is taken if it is due (Trace SDK, Batching processor)
  take : ℕ → Step
  -- the batch that was taken is encoded
  encode : Step
  -- at this moment, it is sent (Trace SDK, Export)
  attempt : ℕ → Step
  -- at this moment and with this random word, what came of that is judged (OTLP Specification,
  -- OTLP/HTTP Response)
  reply : ℕ → ℕ → Step

abbrev pub is_shutdown : Step → Bool
is_shutdown shutdown = true
is_shutdown _ = false
