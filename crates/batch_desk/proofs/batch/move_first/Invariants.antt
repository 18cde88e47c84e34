use Rattle.std.proofs.Common.{◌≡◌, ◌+◌, ◌++◌, drop, length, take}
use Rattle.std.specs.Prelude.{vec_capacity, vec_len}
use Rattle.batch_desk.proofs.batch.move_first.Given as goal

-- the first spans are moved, and the others are left
abbrev pub invariant-loop : goal.invariant-loop
invariant-loop g l = record {
  moved : l.into.items ≡ l.initial.into.items ++ take l.counter l.initial.run.items;
  rest : l.run.items ≡ drop l.counter l.initial.run.items;
  room : l.run.room ≡ l.initial.run.room;
  len : vec_len l.into ≡ vec_len l.initial.into + l.counter;
  capacity : vec_capacity l.into ≡ vec_capacity l.initial.into;
  left : l.counter + length l.run.items ≡ length l.initial.run.items;
}
