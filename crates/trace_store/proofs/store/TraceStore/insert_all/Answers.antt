use Rattle.std.proofs.Common.{ap, rules, subst}
use Rattle.trace_store.specs.Stores.{AreNewest, AreWhole, AreWithin, Evicts}
use Rattle.trace_store.specs.Traces.{joined_traces, with_parts}
use Rattle.trace_store.proofs.Evictions.{evicts_from}
use Rattle.trace_store.proofs.Fronts.{kept_whole}
use Rattle.trace_store.proofs.store.TraceStore.insert_all.Goals as goal

pub returns-clause-newest : goal.returns-clause-newest
returns-clause-newest g c =
    let done = c.in_ok-insert_all.ensures.ok in
    let inside =
    subst (λ x. AreNewest g.S.SpanSize.size_of c.self.inside.limits.max_spans
    c.self.inside.limits.max_bytes x c.evict.new.self.traces)
    (ap (λ x. x.traces) done.2) c.evict.ensures.newest in
    let named =
    evicts_from c.insert_all.new.self c.evict.new.self c.self.inside.kept
    (with_parts c.self.inside.kept.traces done.0) (ap (λ x. x.traces) done.2)
    (ap (λ x. x.evicted_traces) done.2) (ap (λ x. x.last_evicted) done.2) c.evict.ensures.named in
    let room : AreWithin g.S.SpanSize.size_of c.self.inside.limits.max_spans
    c.self.inside.limits.max_bytes (joined_traces c.self.inside.kept.traces c.args.parts.items) =
    subst (λ x. AreWithin g.S.SpanSize.size_of c.self.inside.limits.max_spans
    c.self.inside.limits.max_bytes (joined_traces c.self.inside.kept.traces x))
    c.deref.ensures.value (c.has_room.ensures.0 (search rules)) in
    let whole =
    kept_whole g.S.SpanSize.size_of c.self.inside.limits.max_spans c.self.inside.limits.max_bytes
    c.self.inside.kept.traces c.args.parts.items done.0 c.evict.new.self.traces done.1 room
    inside in (
      done.0,
      done.1,
      subst (λ x. AreNewest g.S.SpanSize.size_of x.max_spans x.max_bytes
          (with_parts x.kept.traces done.0) c.evict.new.self.traces)
          c.self.view_is inside,
      subst (λ x. Evicts (with_parts x.kept.traces done.0) x.kept c.evict.new.self) c.self.view_is
          named,
      subst (λ x. AreWhole c.args.parts.items (with_parts x.kept.traces done.0)
          c.evict.new.self.traces) c.self.view_is whole,
    )
