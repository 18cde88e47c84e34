use Rattle.std.proofs.Common.{◌≡◌, ◌-◌, ◌^◌, fold, take}
use Rattle.trace_tree.specs.Bars.{earlier_start}
use Rattle.trace_tree.proofs.bars.earliest_start.Given as goal

abbrev pub invariant-loop-span : goal.invariant-loop-span
invariant-loop-span l = l.earliest ≡ fold earlier_start (2 ^ 64 - 1) (take l.span-index l.spans)
