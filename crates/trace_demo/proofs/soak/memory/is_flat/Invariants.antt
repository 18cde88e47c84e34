use Rattle.std.proofs.Common.{◌<◌, ◌-◌, ℕ, length}
use Rattle.std.specs.List.{slice_index}
use Rattle.trace_demo.specs.Memory.{IsNear}
use Rattle.trace_demo.proofs.soak.memory.is_flat.Given as goal

-- each later size below the index is near the first ones
abbrev pub invariant-loop-at : goal.invariant-loop-at
invariant-loop-at l = (k : ℕ) → k < l.at → IsNear l.first l.slack (slice_index l.later k)

abbrev pub decreases-loop-at : goal.decreases-loop-at
decreases-loop-at l = length l.later - l.at
