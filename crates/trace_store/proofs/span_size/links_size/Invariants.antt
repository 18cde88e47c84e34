use Rattle.std.proofs.Common.{◌≡◌, take}
use Rattle.std.specs.Prelude.{sum_by}
use Rattle.otlp_read.specs.Memory.{at_most_64_bits}
use Rattle.trace_store.specs.Sizes.{link_bytes}
use Rattle.trace_store.proofs.span_size.links_size.Given as goal

-- the bytes so far
abbrev pub invariant-loop-link : goal.invariant-loop-link
invariant-loop-link g l = l.total ≡ at_most_64_bits (sum_by link_bytes (take l.link-index l.links))
