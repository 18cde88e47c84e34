use Rattle.std.proofs.Common.{◌∙◌, ap, rules}
use Rattle.std.specs.Arc.{arc_value}
use Rattle.std.specs.BTreeSet.{contains}
use Rattle.std.specs.Ordering.{nat_cmp}
use Rattle.trace_store.specs.Keys.{trace_key}
use Rattle.trace_store.specs.Requests.{keyed_of}
use Rattle.trace_store.proofs.Placing.{before_done, counted, empty_set, next_before, next_placed}
use Rattle.trace_store.proofs.Placing.{scope_done}
use Rattle.trace_store.proofs.Yielded.{none_left}
use Rattle.trace_store.proofs.apart.push_scope.Goals as goal

pub loop-span-init : goal.loop-span-init
loop-span-init g c =
    let none = empty_set c.new-before_here.result c.new-before_here.ensures.empty in
    record { found = cc none; before = search rules }

pub loop-span-preserved : goal.loop-span-preserved
loop-span-preserved g c =
    let inv = c.loop-span.invariant in
    let next = c.in-Some.ensures.steps.0 in
    let key = c.trace_key-trace.ensures ∙ ap trace_key c.deref.ensures.value in
    let of_resource = contains nat_cmp c.loop-span.before in
    let of_scope = contains nat_cmp c.loop-span.before_here in
    let share =
    counted (arc_value c.args.resource.now) (arc_value c.in_ok-scope.scope) _ of_resource of_scope
    c.trace_key-trace.result c.args.size c.scope_size-own.result c.in_ok-of_resource.of_resource
    c.in_ok-of_scope.of_scope c.saturating_add-shared.result
    c.requires c.scope_size-own.ensures c.in_ok-scope.ensures.ok c.in_ok-of_resource.ensures.share
    c.in_ok-of_scope.ensures.share c.saturating_add-shared.ensures in
    record {
      found =
          next_placed (arc_value c.args.resource.now) (arc_value c.in_ok-scope.scope) of_resource
          of_scope (contains nat_cmp c.share_of.new.before)
          (contains nat_cmp c.share_of-in-loop-span.new.before)
          c.loop-span.span-iterator.rest.items c.next.new.self.rest.items c.in-Some.span
          (keyed_of c.loop-span.found.items) (keyed_of c.push_span.new.found.items) _
          c.trace_key-trace.result c.saturating_add-shared.result inv.found next key share
          c.in_ok-of_resource.ensures.before c.in_ok-of_scope.ensures.before
          c.in_ok-push_span.ensures;
      before =
          next_before of_resource (contains nat_cmp c.share_of.new.before) _
          c.loop-span.span-iterator.rest.items c.next.new.self.rest.items c.in-Some.span
          c.trace_key-trace.result inv.before next key c.in_ok-of_resource.ensures.before;
    }

pub returns-clause-found : goal.returns-clause-found
returns-clause-found g c =
    scope_done _ (keyed_of c.loop-span.found.items) (arc_value c.args.resource.now)
    (arc_value c.in_ok-scope.scope) (contains nat_cmp c.args.before.now)
    (contains nat_cmp c.loop-span.before) (contains nat_cmp c.loop-span.before_here) c.args.group
    c.loop-span.span-iterator.rest.items
    c.loop-span.invariant.found (none_left c.loop-span.span-iterator.rest.items
    c.loop-span.span-iterator.rest.len c.in-None.ensures.steps.0
    c.loop-span.span-iterator.rest.ok.0)
    c.in_ok-scope.ensures.ok

pub returns-clause-before : goal.returns-clause-before
returns-clause-before g c =
    before_done (contains nat_cmp c.loop-span.before) _ c.loop-span.span-iterator.rest.items
    c.loop-span.invariant.before (none_left c.loop-span.span-iterator.rest.items
    c.loop-span.span-iterator.rest.len c.in-None.ensures.steps.0
    c.loop-span.span-iterator.rest.ok.0)
