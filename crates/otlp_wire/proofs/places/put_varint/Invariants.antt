use Rattle.std.proofs.Common.{◌≡◌, ◌≤◌, ◌<◌, ◌+◌, ◌^◌, ℕ, suc, List, ◌++◌, length, take, drop}
use Rattle.model_message.specs.Canon.{septets_of, shortest}
use Rattle.otlp_wire.proofs.places.put_varint.Given as goal

-- What is there, with the groups of what is left, is the whole, and there is room for it.
pub record Begun (value at : ℕ) (old out : List ℕ) (next rest : ℕ) : Type 0 where
  pub room : ℕ
  pub in_range : rest < 128 ^ suc room
  pub begun : List ℕ
  pub whole : begun ++ septets_of room rest ≡ shortest value
  pub place : next ≡ at + length begun
  pub front : take next out ≡ take at old ++ begun
  pub appended : drop next out ≡ drop next old
  pub len : length out ≡ length old
  pub has_room : next + length (septets_of room rest) ≤ length old

abbrev pub invariant-loop-unwritten : goal.invariant-loop-unwritten
invariant-loop-unwritten l = Begun l.value l.at l.fn.out l.out l.next l.unwritten

abbrev pub decreases-loop-unwritten : goal.decreases-loop-unwritten
decreases-loop-unwritten l = l.unwritten
