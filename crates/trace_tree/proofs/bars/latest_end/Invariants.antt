use Rattle.std.proofs.Common.{◌≡◌, fold, take}
use Rattle.trace_tree.specs.Bars.{later_end}
use Rattle.trace_tree.proofs.bars.latest_end.Given as goal

abbrev pub invariant-loop-span : goal.invariant-loop-span
invariant-loop-span l = l.latest ≡ fold later_end 0 (take l.span-index l.spans)
