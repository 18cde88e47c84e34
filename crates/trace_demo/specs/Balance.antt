-- What balances: each span that ended was handed to the exporter, which delivered or lost it, or
-- was dropped, or is left.
use Rattle.std.specs.Prelude.{◌≡◌, ℕ, ◌+◌, ◌-◌, ◌^◌, min}
use Rattle.trace_demo.specs.declared.sums.Sums.{Sums}

-- how many were handed, dropped or left, as many as a `u64` can hold
abbrev pub accounted_for : Sums → ℕ
accounted_for sums = min (sums.handed + sums.dropped + sums.left) (2 ^ 64 - 1)

-- as many ended, and the collector has as many as were handed
abbrev pub Balances : Sums → Type 0
Balances sums = (sums.ended ≡ accounted_for sums) × (sums.collected ≡ sums.handed)
