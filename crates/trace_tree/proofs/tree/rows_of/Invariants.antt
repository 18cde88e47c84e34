use Rattle.std.proofs.Common.{◌≡◌, ◌-◌, length, reverse, vec_capacity}
use Rattle.trace_tree.specs.Order.{places_of}
use Rattle.trace_tree.proofs.Partway.{IsPartway}
use Rattle.trace_tree.proofs.tree.rows_of.Given as goal

abbrev pub invariant-loop-row : goal.invariant-loop-row
invariant-loop-row g l = record {
  partway : IsPartway l.tree l.places (places_of l.order) l.rows.items (reverse l.pile.items);
  capacity : vec_capacity l.rows ≡ length l.places;
}

abbrev pub decreases-loop-row : goal.decreases-loop-row
decreases-loop-row g l = length l.places - length l.rows.items
