use Rattle.std.proofs.Common.{◌≡◌, ◌+◌, ◌++◌, drop, length, take, vec_capacity, vec_len}
use Rattle.relay_queue.specs.Bodies.{bodies_view}
use Rattle.relay_queue.proofs.line.Line.move_first.Given as goal

-- the first bodies are moved, and the others are left
abbrev pub invariant-loop : goal.invariant-loop
invariant-loop g l = record {
  moved : bodies_view l.into.items
      ≡ bodies_view l.fn.into.items ++ take l.counter l.fn.self;
  rest : l.self ≡ drop l.counter l.fn.self;
  len : vec_len l.into ≡ vec_len l.fn.into + l.counter;
  capacity : vec_capacity l.into ≡ vec_capacity l.fn.into;
  left : l.counter + length l.self ≡ length l.fn.self;
}
