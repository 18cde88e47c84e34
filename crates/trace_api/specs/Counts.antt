-- Requests without a span.
use Rattle.std.specs.Prelude.{ℕ, ◌-◌, ◌^◌, min}

-- a number of requests, which stops at the greatest of 64 bits (profile)
abbrev pub counted_requests : ℕ → ℕ
counted_requests n = min n (2 ^ 64 - 1)
