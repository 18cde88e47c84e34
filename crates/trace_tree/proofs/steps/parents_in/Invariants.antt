use Rattle.std.proofs.Common.{◌≡◌, ◌++◌, length, map, drop, vec_len, vec_capacity}
use Rattle.trace_tree.specs.Steps.{parent_in, parents_in}
use Rattle.trace_tree.specs.declared.steps.Kin.{Kin}
use Rattle.trace_tree.proofs.steps.parents_in.Given as goal

-- those that are made, and those that are left
abbrev pub invariant-loop-kin : goal.invariant-loop-kin
invariant-loop-kin g l = record {
  all : l.parents.items
      ++ map (λ (k : Kin). parent_in (length l.kins) k.parent) (drop l.kin-index l.kins)
      ≡ parents_in l.kins;
  count : vec_len l.parents ≡ l.kin-index;
  capacity : vec_capacity l.parents ≡ length l.kins;
}
