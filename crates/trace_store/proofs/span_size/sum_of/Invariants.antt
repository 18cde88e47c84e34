use Rattle.std.proofs.Common.{◌≡◌, take}
use Rattle.std.specs.Prelude.{sum}
use Rattle.otlp_read.specs.Memory.{at_most_64_bits}
use Rattle.trace_store.proofs.span_size.sum_of.Given as goal

-- the sum so far
abbrev pub invariant-loop-size : goal.invariant-loop-size
invariant-loop-size l = l.total ≡ at_most_64_bits (sum (take l.size-index l.sizes))
