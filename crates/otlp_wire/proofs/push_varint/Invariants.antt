use Rattle.std.proofs.Common.{◌≡◌, ◌≤◌, ◌<◌, ◌+◌, ◌^◌, ℕ, suc, ◌++◌, length, Vec, vec_len}
use Rattle.std.proofs.Common.{vec_capacity}
use Rattle.model_message.specs.Canon.{septets_of, shortest}
use Rattle.otlp_wire.proofs.push_varint.Given as goal

-- What is there, with the groups of what is left, is the whole, and there is room for it.
pub record Begun (A : Type 0) (value : ℕ) (old out : Vec ℕ A) (rest : ℕ) : Type 0 where
  pub room : ℕ
  pub in_range : rest < 128 ^ suc room
  pub has_room : vec_len out + length (septets_of room rest) ≤ vec_capacity out
  pub capacity : vec_capacity out ≡ vec_capacity old
  pub whole : out.items ++ septets_of room rest ≡ old.items ++ shortest value

abbrev pub invariant-loop-unwritten : goal.invariant-loop-unwritten
invariant-loop-unwritten g l = Begun _ l.value l.fn.out l.out l.unwritten

abbrev pub decreases-loop-unwritten : goal.decreases-loop-unwritten
decreases-loop-unwritten g l = l.unwritten
