use Rattle.std.proofs.Common.{subst, sym}
use Rattle.trace_tree.specs.Steps.{AreOpen}
use Rattle.trace_tree.proofs.Starts.{sorted_by_start}
use Rattle.trace_tree.proofs.Stepping.{sound_sorted}
use Rattle.trace_tree.proofs.steps.Opened.sort.Goals as goal

pub invariant_of-self-2 : goal.invariant_of-self-2
invariant_of-self-2 g c =
    sound_sorted c.self.inside.tree.items c.self.inside.places.items c.self.inside.starts.items
    c.sort.new.self.items c.self.invariant c.sort.ensures.permutation

pub returns : goal.returns
returns g c spans old =
    let is = subst (AreOpen spans) (sym c.self.view_is) old in
    record {
      is_tree = is.is_tree;
      placed = is.placed;
      by_start =
          sorted_by_start spans c.self.inside.starts.items c.sort.new.self.items is.starts
          c.sort.ensures.permutation c.in_ok-sort.ensures.sorted;
    }
