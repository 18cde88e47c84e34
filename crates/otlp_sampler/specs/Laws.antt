-- What holds for each ratio and each trace.
use Rattle.std.specs.Prelude.{◌≡◌, ℕ, ◌-◌, ◌*◌, ◌^◌, ◌<◌, ◌≤◌, List, IsTrue, true, false}
use Rattle.std.specs.Prelude.{length, nat_le, slice_index}
use Rattle.std.specs.List.{count_by, range_with_len}
use Rattle.otlp_sampler.specs.Ratio.{is_sampled_by, threshold_of}

-- a trace id is sixteen bytes (W3C Trace Context, trace-id)
pub record IsTraceId (trace : List ℕ) : Type 0 where
  pub length : length trace ≡ 16
  pub bytes : (k : ℕ) → slice_index trace k < 256

-- What the smaller of two ratios samples, the greater one samples, too. (Trace SDK,
-- TraceIdRatioBased)
abbrev pub GreaterRatiosSampleMore : Type 0
GreaterRatiosSampleMore =
    (n d m e : ℕ) (trace : List ℕ)
    → 0 < d
    → 0 < e
    → n * e ≤ m * d
    → IsTrue (is_sampled_by (threshold_of n d) trace)
    → IsTrue (is_sampled_by (threshold_of m e) trace)

-- ratio 0 samples no trace
abbrev pub NoneAreSampled : Type 0
NoneAreSampled =
    (d : ℕ) (trace : List ℕ)
    → 0 < d
    → IsTraceId trace
    → is_sampled_by (threshold_of 0 d) trace ≡ false

-- ratio 1 samples each
abbrev pub AllAreSampled : Type 0
AllAreSampled =
    (d : ℕ) (trace : List ℕ) → 0 < d → is_sampled_by (threshold_of d d) trace ≡ true

-- how many of the numbers below n a threshold samples
unfoldable pub sampled_below : ℕ → ℕ → ℕ
sampled_below threshold n = count_by (nat_le threshold) (range_with_len 0 n)

-- of the 2^56 numbers, all but those below the threshold
abbrev pub ShareIsExact : Type 0
ShareIsExact = (threshold : ℕ) → sampled_below threshold (2 ^ 56) ≡ 2 ^ 56 - threshold
