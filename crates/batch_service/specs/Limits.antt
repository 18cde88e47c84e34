-- Up to when a service's worker may begin attempts. (Trace SDK, Shutdown, which may be given a
-- timeout; the moment and the clock: profile)
use Rattle.std.specs.Prelude.{ℕ, ◌+◌, ◌*◌, ◌^◌, ◌-◌, min, nat_le, Bool, true, false, Option, Some}
use Rattle.std.specs.Prelude.{None}

-- The moment this number of milliseconds from now on, in nanoseconds, up to the greatest number of
-- 64 bits. Where the clock can't be read, it is the first one. (profile)
abbrev pub moment_after : Option ℕ → ℕ → ℕ
moment_after None ms = 0
moment_after (Some now) ms = min (now + min (ms * 10 ^ 6) (2 ^ 64 - 1)) (2 ^ 64 - 1)

-- Whether the time is up: a moment is set, and the clock says that one or a later one, or can't be
-- read. (profile)
abbrev pub is_time_up : Option ℕ → Option ℕ → Bool
is_time_up None now = false
is_time_up (Some limit) None = true
is_time_up (Some limit) (Some now) = nat_le limit now
