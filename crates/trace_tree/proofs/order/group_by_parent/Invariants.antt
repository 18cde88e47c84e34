use Rattle.std.proofs.Common.{take}
use Rattle.trace_tree.specs.Order.{lists_of, places_of}
use Rattle.trace_tree.proofs.Families.{IsGrouped}
use Rattle.trace_tree.proofs.order.group_by_parent.Given as goal

abbrev pub invariant-loop-index : goal.invariant-loop-index
invariant-loop-index g l =
    IsGrouped l.tree (places_of (take l.index-index l.order)) l.tops.items
    (lists_of l.children.items)
