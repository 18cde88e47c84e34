use Rattle.std.proofs.Common.{◌∙◌, ap, map}
use Rattle.otlp_proto.specs.Group.{resource_group_view, resources_view}
use Rattle.otlp_proto.proofs.Grouped.{all-grouped, on-err, some-spans}
use Rattle.otlp_proto.proofs.groups.group.Goals as goal

pub returns-in_err-scopes-clause-refused : goal.returns-in_err-scopes-clause-refused
returns-in_err-scopes-clause-refused g c =
    let some =
    some-spans (map resource_group_view c.loop-resource.groups.items)
    (resources_view c.loop-resource.resource-iterator) _ _ _ c.args.spans.now
    c.loop-resource.invariant
    (ap resources_view c.in-Some.ensures.steps)
    (ap resources_view c.into_iter-resource-iterator.ensures.into_iter_gives.0
    ∙ c.in_ok-items.ensures.grouped) in
    on-err c.from_residual-in_err-scopes.result some

pub returns-in_err-push-clause-refused : goal.returns-in_err-push-clause-refused
returns-in_err-push-clause-refused g c =
    let some =
    some-spans (map resource_group_view c.loop-resource.groups.items)
    (resources_view c.loop-resource.resource-iterator) _ _ _ c.args.spans.now
    c.loop-resource.invariant
    (ap resources_view c.in-Some.ensures.steps)
    (ap resources_view c.into_iter-resource-iterator.ensures.into_iter_gives.0
    ∙ c.in_ok-items.ensures.grouped) in
    on-err c.from_residual-in_err-push.result some

pub returns-clause-grouped : goal.returns-clause-grouped
returns-clause-grouped g c =
    all-grouped (map resource_group_view c.loop-resource.groups.items)
    (resources_view c.loop-resource.resource-iterator)
    (resources_view c.into_iter-resource-iterator.result) c.args.spans.now c.loop-resource.invariant
    (ap resources_view c.in-None.ensures.steps.0)
    (ap resources_view c.into_iter-resource-iterator.ensures.into_iter_gives.0
    ∙ c.in_ok-items.ensures.grouped)
