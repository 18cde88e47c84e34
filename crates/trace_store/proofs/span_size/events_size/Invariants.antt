use Rattle.std.proofs.Common.{◌≡◌, take}
use Rattle.std.specs.Prelude.{sum_by}
use Rattle.otlp_read.specs.Memory.{at_most_64_bits}
use Rattle.trace_store.specs.Sizes.{event_bytes}
use Rattle.trace_store.proofs.span_size.events_size.Given as goal

-- the bytes so far
abbrev pub invariant-loop-event : goal.invariant-loop-event
invariant-loop-event g l =
    l.total ≡ at_most_64_bits (sum_by event_bytes (take l.event-index l.events))
