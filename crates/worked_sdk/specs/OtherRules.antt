-- How two other SDKs sample by a ratio, from their sources. They go by the low 64 bits of a trace
-- id, and sample what is below a bound; this kit goes by the low 56 bits, and samples what is at
-- least a threshold.
use Rattle.std.specs.Prelude.{ℕ, ◌*◌, ◌/◌, ◌^◌, Bool, List, drop, nat_lt}
use Rattle.otlp_sampler.specs.Ratio.{big_endian}

-- the last 8 bytes of a trace id
abbrev pub low_64 : List ℕ → ℕ
low_64 trace = big_endian (drop 8 trace)

-- these bits but the last are below the ratio's share of 2^63 (opentelemetry-go, TraceIDRatioBased)
abbrev pub go_samples : ℕ → ℕ → List ℕ → Bool
go_samples numerator denominator trace =
    nat_lt (low_64 trace / 2) (numerator * 2 ^ 63 / denominator)

-- these bits are below the ratio's share of 2^64 (opentelemetry-python, TraceIdRatioBased)
abbrev pub python_samples : ℕ → ℕ → List ℕ → Bool
python_samples numerator denominator trace =
    nat_lt (low_64 trace) (numerator * 2 ^ 64 / denominator)
