use Rattle.std.proofs.Common.{◌<◌, ◌≤◌, ◌+◌, ◌-◌, ℕ, length}
use Rattle.std.specs.List.{slice_index}
use Rattle.trace_demo.proofs.soak.balance.rise.Given as goal

-- each number below the index is below the next one
abbrev pub invariant-loop-at : goal.invariant-loop-at
invariant-loop-at l =
    (1 ≤ l.at) × ((k : ℕ) → k + 1 < l.at → slice_index l.numbers k < slice_index l.numbers (k + 1))

abbrev pub decreases-loop-at : goal.decreases-loop-at
decreases-loop-at l = length l.numbers - l.at
