-- The front of a text. (profile)
use Rattle.std.specs.Prelude.{ℕ, List}

-- the bytes that it took, and how often there was no room for more
pub record Front : Type 0 where
  pub taken : List ℕ
  pub failures : ℕ
