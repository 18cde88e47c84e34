use Rattle.std.proofs.Common.{◌∙◌, ap, sym}
use Rattle.std.specs.Arc.{arc_value}
use Rattle.std.specs.BTreeSet.{contains}
use Rattle.std.specs.Ordering.{nat_cmp}
use Rattle.trace_store.specs.Requests.{keyed_of}
use Rattle.otlp_read.specs.Memory.{at_most_64_bits}
use Rattle.trace_store.specs.Sizes.{resource_bytes}
use Rattle.trace_store.proofs.Placing.{empty_set, next_scope, resource_done}
use Rattle.trace_store.proofs.Yielded.{none_left}
use Rattle.trace_store.proofs.apart.push_resource.Goals as goal

pub loop-scope_group-init : goal.loop-scope_group-init
loop-scope_group-init g c =
    let none = empty_set c.new-before.result c.new-before.ensures.empty in cc none

pub loop-scope_group-preserved : goal.loop-scope_group-preserved
loop-scope_group-preserved g c =
    next_scope (arc_value c.in_ok-resource.resource) (contains nat_cmp c.loop-scope_group.before)
    (contains nat_cmp c.push_scope.new.before) c.loop-scope_group.scope_group-iterator.rest.items
    c.next.new.self.rest.items c.in-Some.scope_group (keyed_of c.loop-scope_group.found.items)
    (keyed_of c.push_scope.new.found.items) _ c.loop-scope_group.invariant
    c.in-Some.ensures.steps.0 c.in_ok-push_scope.ensures.found c.in_ok-push_scope.ensures.before

pub returns : goal.returns
returns g c =
    resource_done _ (keyed_of c.loop-scope_group.found.items)
    (arc_value c.in_ok-resource.resource) (contains nat_cmp c.loop-scope_group.before)
    c.args.group c.loop-scope_group.scope_group-iterator.rest.items c.loop-scope_group.invariant
    (none_left c.loop-scope_group.scope_group-iterator.rest.items
    c.loop-scope_group.scope_group-iterator.rest.len c.in-None.ensures.steps.0
    c.loop-scope_group.scope_group-iterator.rest.ok.0)
    c.in_ok-resource.ensures.ok

pub push_scope-requires : goal.push_scope-requires
push_scope-requires g c =
    c.resource_size-size.ensures
    ∙ ap (λ r. at_most_64_bits (resource_bytes r)) (sym c.in_ok-resource.ensures.ok)
