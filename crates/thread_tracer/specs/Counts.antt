-- Counts of what was refused.
use Rattle.std.specs.Prelude.{ℕ, ◌-◌, ◌^◌, min}

-- a count, which stops at the greatest number of 64 bits (profile)
abbrev pub counted : ℕ → ℕ
counted n = min n (2 ^ 64 - 1)
