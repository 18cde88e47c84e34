-- Sampling by a threshold: of the numbers of 56 bits, those from the threshold on are sampled.
-- (Trace SDK, Built-in samplers: TraceIdRatioBased; W3C Trace Context level 2, Random Trace ID
-- Flag)
use Rattle.std.specs.Prelude.{ℕ, ◌+◌, ◌-◌, ◌*◌, ◌/◌, ◌^◌, Bool, if◌then◌else◌, List, [], ◌∷◌}
use Rattle.std.specs.Prelude.{length, drop, nat_le}
use Rattle.model_span.specs.Sampling as model

-- the number that bytes are, the most significant one first
abbrev pub big_endian : List ℕ → ℕ
big_endian [] = 0
big_endian (byte ∷ bytes) = byte * 256 ^ length bytes + big_endian bytes

-- the low 56 bits of a trace id: its last 7 bytes (W3C Trace Context level 2, Random Trace ID Flag)
abbrev pub random_part : List ℕ → ℕ
random_part trace = big_endian (drop 9 trace)

-- these bits are at least the threshold (Trace SDK, TraceIdRatioBased)
abbrev pub is_sampled_by : ℕ → List ℕ → Bool
is_sampled_by threshold trace = nat_le threshold (random_part trace)

-- the sampler of a threshold: it goes by the trace id alone
abbrev pub by_threshold : ℕ → model.SamplerMeaning
by_threshold threshold span =
    if is_sampled_by threshold span.trace then model.record_and_sample else model.drop

-- how many of the 2^56 numbers a ratio samples: its share of them, rounded down (profile)
abbrev pub share : ℕ → ℕ → ℕ
share numerator denominator = numerator * 2 ^ 56 / denominator

-- the threshold of a ratio: that many numbers are at least as great as it
abbrev pub threshold_of : ℕ → ℕ → ℕ
threshold_of numerator denominator = 2 ^ 56 - share numerator denominator
