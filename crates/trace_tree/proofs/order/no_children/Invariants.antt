use Rattle.std.proofs.Common.{◌≡◌, [], replicate, vec_len, vec_capacity}
use Rattle.trace_tree.specs.Order.{lists_of}
use Rattle.trace_tree.proofs.order.no_children.Given as goal

abbrev pub invariant-loop : goal.invariant-loop
invariant-loop g l = record {
  made : lists_of l.children.items ≡ replicate l.counter [];
  size : vec_len l.children ≡ l.counter;
  capacity : vec_capacity l.children ≡ l.count;
}
