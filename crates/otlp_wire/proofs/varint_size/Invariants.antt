use Rattle.std.proofs.Common.{◌≡◌, ◌≤◌, ◌<◌, ◌+◌, ◌^◌, ℕ, suc, length}
use Rattle.model_message.specs.Canon.{septets_of, shortest}
use Rattle.otlp_wire.proofs.varint_size.Given as goal

-- With the groups of what is left, one too many is counted.
pub record Counted (value size rest : ℕ) : Type 0 where
  pub room : ℕ
  pub in_range : rest < 128 ^ suc room
  pub positive : 0 < size
  pub in_room : size + room ≤ 10
  pub whole : size + length (septets_of room rest) ≡ length (shortest value) + 1

abbrev pub invariant-loop-uncounted : goal.invariant-loop-uncounted
invariant-loop-uncounted l = Counted l.value l.size l.uncounted

abbrev pub decreases-loop-uncounted : goal.decreases-loop-uncounted
decreases-loop-uncounted l = l.uncounted
