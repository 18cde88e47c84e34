use Rattle.std.proofs.Common.{◌≡◌, length, map, take, vec_len, vec_capacity}
use Rattle.trace_tree.specs.Parents.{parent_of}
use Rattle.trace_tree.proofs.parents.find_parents.Given as goal

abbrev pub invariant-loop-span : goal.invariant-loop-span
invariant-loop-span g l = record {
  found : l.parents.items ≡ map (parent_of l.spans) (take l.span-index l.spans);
  size : vec_len l.parents ≡ l.span-index;
  capacity : vec_capacity l.parents ≡ length l.spans;
}
