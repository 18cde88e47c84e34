use Rattle.std.proofs.Common.{◌≡◌, replicate, vec_len, vec_capacity}
use Rattle.trace_tree.specs.declared.cycles.Mark.TheVariants.{Unseen}
use Rattle.trace_tree.proofs.cycles.unseen.Given as goal

abbrev pub invariant-loop : goal.invariant-loop
invariant-loop g l = record {
  made : l.marks.items ≡ replicate l.counter Unseen;
  size : vec_len l.marks ≡ l.counter;
  capacity : vec_capacity l.marks ≡ l.count;
}
