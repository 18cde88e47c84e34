use Rattle.std.proofs.Common.{◌≡◌, ◌+◌, ◌*◌, take}
use Rattle.std.specs.Prelude.{sum_by}
use Rattle.otlp_read.specs.Memory.{at_most_64_bits}
use Rattle.trace_store.specs.Sizes.{pair_bytes, value_bytes}
use Rattle.trace_store.proofs.span_size.+size.Given as goal

-- the bytes so far
abbrev pub invariant-values_size-loop-value : goal.invariant-values_size-loop-value
invariant-values_size-loop-value g l =
    l.total ≡ at_most_64_bits (sum_by value_bytes (take l.value-index l.values))

abbrev pub invariant-pairs_size-loop-key : goal.invariant-pairs_size-loop-key
invariant-pairs_size-loop-key g l =
    l.total ≡ at_most_64_bits (sum_by pair_bytes (take l.key-index l.pairs))

-- a value takes more than what is in it, and that no less than each part
abbrev pub decreases-value_size : goal.decreases-value_size
decreases-value_size g l = 2 * value_bytes l.value.now

abbrev pub decreases-values_size : goal.decreases-values_size
decreases-values_size g l = 2 * sum_by value_bytes l.values.now + 1

abbrev pub decreases-pairs_size : goal.decreases-pairs_size
decreases-pairs_size g l = 2 * sum_by pair_bytes l.pairs.now + 1
