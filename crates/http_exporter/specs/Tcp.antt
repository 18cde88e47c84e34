-- What dials over TCP. (profile)
use Rattle.std.specs.Prelude.{ℕ}

-- a runtime that has sockets, how long a connection, a read and a write may wait each, and how long
-- an attempt may take, in milliseconds
pub record TcpDialing (Runtime : Type 0) : Type 0 where
  pub runtime : Runtime
  pub timeout_ms : ℕ
  pub attempt_ms : ℕ
