-- A wire over memory that fails on request.
use Rattle.std.specs.Prelude.{ℕ, Bool, false, ◌==◌, nat_le, min, List, length}
use Rattle.http_wire.specs.declared.wire.FailingCalls.{FailingCalls}
use Rattle.http_wire.specs.declared.wire.FailingCalls.TheVariants.{Never, Once, From}

-- the bytes that it has yet to give and those that it took, the most of a call, which calls fail,
-- and how many calls and failures there were
pub record Wire : Type 0 where
  pub left : List ℕ
  pub taken : List ℕ
  pub most : ℕ
  pub failing : FailingCalls
  pub calls : ℕ
  pub failures : ℕ

-- whether the call with this number, from 0, fails
abbrev pub is_failing : FailingCalls → ℕ → Bool
is_failing Never call = false
is_failing (Once at) call = call == at
is_failing (From at) call = nat_le at call

-- whether the next call fails
abbrev pub fails_next : Wire → Bool
fails_next wire = is_failing wire.failing wire.calls

-- how many bytes the next call gives where there is this room, if it doesn't fail
abbrev pub given_to : ℕ → Wire → ℕ
given_to room wire = min (min room wire.most) (length wire.left)
