use Rattle.std.proofs.Common.{◌∷◌, [], ◌∙◌, ap, arith, length, subst, sym}
use Rattle.lru.specs.LruCache.{lru_cache}
use Rattle.trace_store.specs.Parts.{AreThere}
use Rattle.trace_store.specs.Traces.{span_count, with_spans}
use Rattle.trace_store.proofs.PartLemmas.{are_there_with, first_sum, with_parts_append, yields_step}
use Rattle.trace_store.proofs.Sums.{spans_le, with_count}
use Rattle.trace_store.proofs.parts.add_others.Goals as goal

pub add_to-requires-clause-fits : goal.add_to-requires-clause-fits
add_to-requires-clause-fits g c =
    let sum =
    ap span_count c.in-Some.ensures.steps.0
    ∙ first_sum length (c.in-Some.trace, c.in-Some.spans) c.next.new.self.rest.items in
    omega
    (arith, spans_le c.loop-trace.traces.entries c.in-Some.trace, sum, c.loop-trace.invariant.fits)

pub loop-trace-preserved : goal.loop-trace-preserved
loop-trace-preserved g c =
    let inv = c.loop-trace.invariant in
    let next = c.in-Some.ensures.steps.0 in
    let sum =
    ap span_count next
    ∙ first_sum length (c.in-Some.trace, c.in-Some.spans) c.next.new.self.rest.items in
    let entries = ap (λ x. x.entries) c.add_to.ensures.traces in
    let counted =
    ap span_count entries
    ∙ with_count c.loop-trace.traces.entries c.in-Some.trace c.in-Some.spans in
    record {
      rest =
          yields_step c.loop-trace.yielded c.loop-trace.trace-iterator.rest.items
          c.next.new.self.rest.items c.args.parts.items
          (c.in-Some.trace, c.in-Some.spans) inv.rest next;
      added =
          c.add_to.ensures.traces
          ∙ ap
          (λ x. lru_cache (with_spans x.entries c.in-Some.trace c.in-Some.spans) x.cap) inv.added
          ∙ ap (λ x. lru_cache x c.args.traces.now.cap)
          (sym (with_parts_append c.args.traces.now.entries c.loop-trace.yielded
          ((c.in-Some.trace, c.in-Some.spans) ∷ [])));
      there = subst (λ x. AreThere x c.next.new.self.rest.items) (sym entries)
          (are_there_with c.loop-trace.traces.entries c.next.new.self.rest.items c.in-Some.trace
          c.in-Some.spans
          (subst (AreThere c.loop-trace.traces.entries) next inv.there).1);
      fits = omega (arith, sum, counted, inv.fits);
    }
