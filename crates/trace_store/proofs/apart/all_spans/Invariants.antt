use Rattle.std.proofs.Common.{◌≡◌, ◌++◌, map}
use Rattle.std.specs.List.{flat_map}
use Rattle.trace_store.specs.Requests.{keyed, keyed_of, spans_of_resource}
use Rattle.trace_store.proofs.apart.all_spans.Given as goal

-- the spans of the resources so far are there
abbrev pub invariant-loop-group : goal.invariant-loop-group
invariant-loop-group g l = record {
  rest : l.yielded ++ l.group-iterator.rest.items ≡ l.fn.request.resource_spans.items;
  found : keyed_of l.found.items ≡ map keyed (flat_map spans_of_resource l.yielded);
}
