use Rattle.std.proofs.Common.{◌∷◌, [], ap, rules, subst}
use Rattle.std.proofs.lemmas.List.Sorted.{IsPermutation-refl}
use Rattle.trace_store.specs.Stores.{AreNewest, AreWhole, AreWithin}
use Rattle.trace_store.specs.Traces.{joined_traces, with_parts, with_spans}
use Rattle.trace_store.proofs.Fronts.{kept_whole}
use Rattle.trace_store.proofs.store.TraceStore.insert.Goals as goal

pub returns-clause-whole : goal.returns-clause-whole
returns-clause-whole g c =
    let limits = c.self.inside.limits in
    let traces = c.self.inside.kept.traces in
    let part = (c.args.trace, c.args.spans) ∷ [] in
    let room : AreWithin g.S.SpanSize.size_of limits.max_spans limits.max_bytes
    (joined_traces traces part) =
    c.has_room_for.ensures.0 (search rules) in
    let newest : AreNewest g.S.SpanSize.size_of limits.max_spans limits.max_bytes
    (with_parts traces part) c.evict.new.self.traces =
    subst (λ x. AreNewest g.S.SpanSize.size_of limits.max_spans limits.max_bytes x
    c.evict.new.self.traces)
    (ap (λ x. x.traces) c.in_ok-insert.ensures.ok) c.evict.ensures.newest in
    subst (λ x. AreWhole part (with_spans x.kept.traces c.args.trace c.args.spans)
    c.evict.new.self.traces) c.self.view_is
    (kept_whole g.S.SpanSize.size_of limits.max_spans limits.max_bytes traces part part
    c.evict.new.self.traces (IsPermutation-refl part) room newest)
