use Rattle.std.proofs.Common.{◌≡◌, ◌++◌, map}
use Rattle.std.specs.Arc.{arc_value}
use Rattle.std.specs.BTreeSet.{contains}
use Rattle.std.specs.Ordering.{nat_cmp}
use Rattle.trace_store.specs.Requests.{keyed, keyed_of, no_trace, spans_of_scopes}
use Rattle.trace_store.proofs.apart.push_resource.Given as goal

-- with those of the scopes that are left, the spans are all of the resource
abbrev pub invariant-loop-scope_group : goal.invariant-loop-scope_group
invariant-loop-scope_group g l =
    keyed_of l.found.items
    ++ map keyed
    (spans_of_scopes (arc_value l.resource) (contains nat_cmp l.before)
    l.scope_group-iterator.rest.items)
    ≡ keyed_of l.fn.found.items
    ++ map keyed
    (spans_of_scopes (arc_value l.resource) no_trace l.fn.group.scope_spans.items)
