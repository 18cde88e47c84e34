use Rattle.std.proofs.Common.{◌≡◌, ◌++◌, map}
use Rattle.std.specs.Arc.{arc_value}
use Rattle.std.specs.BTreeSet.{contains}
use Rattle.std.specs.Ordering.{nat_cmp}
use Rattle.trace_store.specs.Requests.{and_spans, keyed, keyed_of, no_trace, placed_after}
use Rattle.trace_store.proofs.apart.push_scope.Given as goal

-- with those that are left, the spans are all of the scope, and the traces those of all spans
abbrev pub invariant-loop-span : goal.invariant-loop-span
invariant-loop-span g l = record {
  found : keyed_of l.found.items
      ++ map keyed
      (placed_after (arc_value l.resource) (arc_value l.scope) (contains nat_cmp l.before)
      (contains nat_cmp l.before_here) l.span-iterator.rest.items)
      ≡ keyed_of l.fn.found.items
      ++ map keyed
      (placed_after (arc_value l.resource) (arc_value l.scope) (contains nat_cmp l.fn.before)
      no_trace l.fn.group.spans.items);
  before : and_spans (contains nat_cmp l.before) l.span-iterator.rest.items
      ≡ and_spans (contains nat_cmp l.fn.before) l.fn.group.spans.items;
}
