use Rattle.std.proofs.Common.{rules}
use Rattle.std.proofs.lemmas.List.Sorted.{IsNonDecreasingBy-from_sort_by_key}
use Rattle.trace_store.specs.Requests.{spans_of_request}
use Rattle.trace_store.proofs.Placing.{if_ok, parts_are, parts_keep}
use Rattle.trace_store.proofs.apart.take_apart.Goals as goal

pub group-requires : goal.group-requires
group-requires g c =
    IsNonDecreasingBy-from_sort_by_key (λ e. e.0) _ c.in_ok-sort_by_key.ensures.sorted
    (λ a r q k. search rules)

pub returns-clause-spans : goal.returns-clause-spans
returns-clause-spans g c =
    if_ok _ _ c.group.result
    (λ parts h. parts_are c.in_ok-spans.spans.items c.sort_by_key.new.self.items
    (spans_of_request c.args.request) parts.items c.in_ok-spans.ensures
    c.in_ok-sort_by_key.ensures.permutation h.all)
    c.group.ensures

pub returns-clause-traces : goal.returns-clause-traces
returns-clause-traces g c =
    if_ok _ _ c.group.result
    (λ parts h. parts_keep c.in_ok-spans.spans.items c.sort_by_key.new.self.items
    (spans_of_request c.args.request) parts.items c.in_ok-spans.ensures
    c.in_ok-sort_by_key.ensures.permutation h.all)
    c.group.ensures
