use Rattle.std.proofs.Common.{◌≡◌, ◌++◌, drop, map, reverse}
use Rattle.trace_tree.specs.Rows.{row_at}
use Rattle.trace_tree.proofs.tree.pile_up.Given as goal

abbrev pub invariant-loop-place : goal.invariant-loop-place
invariant-loop-place g l =
    l.pile.items
    ≡ l.fn.pile.items ++ reverse (map (row_at l.places l.depth) (drop l.place l.indices))
