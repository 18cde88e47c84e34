-- What a reader and a writer that count their failures do at each call.
use Rattle.std.specs.Prelude.{◌≡◌, ℕ, ◌+◌, ◌-◌, ◌^◌, ◌<◌, ◌≤◌, ◌⊎◌, min, Result, MatchResult}

-- a reader or a writer of `std`, and how often it has failed
pub record CountedDevice (T : Type 0) : Type 0 where
  pub inner : T
  pub failures : ℕ

-- the greatest count
abbrev pub greatest_count : ℕ
greatest_count = 2 ^ 64 - 1

-- one failure more, up to the greatest count (profile)
abbrev pub one_more : ℕ → ℕ
one_more count = min (count + 1) greatest_count

-- what was called adds one failure where it failed, and none where it didn't
abbrev pub CountsFailure : {T E : Type 0} → Result T E → ℕ → ℕ → Type 0
CountsFailure answer old new = MatchResult answer (λ _. new ≡ old) (λ _. new ≡ one_more old)

-- some call failed in between: the count rose, or was at its last value
abbrev pub HasFailed : ℕ → ℕ → Type 0
HasFailed old new = (old < new) ⊎ (greatest_count ≤ old)
