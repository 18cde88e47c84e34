use Rattle.std.proofs.Common.{◌∷◌, [], ◌∙◌, ap, append_assoc, map}
use Rattle.std.specs.List.{flat_map}
use Rattle.trace_store.specs.Requests.{keyed, keyed_of, spans_of_resource}
use Rattle.trace_store.proofs.Placing.{some_pushed}
use Rattle.trace_store.proofs.Yielded.{ended, next_of}
use Rattle.trace_store.proofs.apart.all_spans.Goals as goal

pub loop-group-preserved : goal.loop-group-preserved
loop-group-preserved g c =
    let inv = c.loop-group.invariant in
    let whole =
    next_of c.loop-group.yielded c.loop-group.group-iterator.rest.items
    c.next.new.self.rest.items c.args.request.resource_spans.items c.in-Some.group inv.rest
    c.in-Some.ensures.steps.0 in
    record {
      rest =
          append_assoc c.loop-group.yielded (c.in-Some.group ∷ []) c.next.new.self.rest.items
          ∙ whole;
      found =
          some_pushed keyed spans_of_resource [] (keyed_of c.loop-group.found.items)
          (keyed_of c.push_resource.new.found.items) c.loop-group.yielded c.in-Some.group
          inv.found c.in_ok-push_resource.ensures;
    }

pub returns : goal.returns
returns g c =
    let inv = c.loop-group.invariant in
    inv.found
    ∙ ap (λ l. map keyed (flat_map spans_of_resource l))
    (ended c.loop-group.yielded c.loop-group.group-iterator.rest.items
    c.args.request.resource_spans.items c.loop-group.group-iterator.rest.len inv.rest
    c.in-None.ensures.steps.0 c.loop-group.group-iterator.rest.ok.0)
