-- The words of a script, one after the other, and zeros after them.
use Rattle.std.specs.Prelude.{ℕ, List, drop, slice_index}
use Rattle.rand_core.specs.Stream.{Stream}
use Rattle.rand_core.specs.Steps.{steps_u64_high, stream_of}

-- the next word, and those after it
abbrev pub next : List ℕ → ℕ × List ℕ
next words = (slice_index words 0, drop 1 words)

-- what a generator that gives them will answer
abbrev pub stream : List ℕ → Stream
stream = stream_of (steps_u64_high next)
