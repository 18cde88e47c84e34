-- Memory that stays flat.
use Rattle.std.specs.Prelude.{ℕ, ◌≤◌, ◌<◌, ◌-◌, List, Any, length}
use Rattle.std.specs.List.{slice_index}

-- A size is above one of the first ones by no more than the slack.
pub record IsNear (first : List ℕ) (slack size : ℕ) : Type 0 where
  pub near : Any (λ one. size - one ≤ slack) first

-- The size after each later round is near those after the first ones. (profile)
abbrev pub IsFlat : List ℕ → List ℕ → ℕ → Type 0
IsFlat first later slack =
    (k : ℕ) → k < length later → IsNear first slack (slice_index later k)
