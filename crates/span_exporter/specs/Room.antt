-- Room for bodies. (profile)
use Rattle.std.specs.Prelude.{ℕ, nat_le, if◌then◌else◌}

-- how many bytes a body may have, and for how many there is room
pub record Room : Type 0 where
  pub size : ℕ
  pub attempts : ℕ

-- for how many bodies of this size there is room
abbrev pub room_for : Room → ℕ → ℕ
room_for room len = if nat_le len room.size then room.attempts else 0
