use Rattle.std.proofs.Common.{◌≤◌, ◌++◌, ◌∷◌, [], sym, ◌∙◌, ap, arith, length}
use Rattle.std.specs.Prelude.{sum_by}
use Rattle.circular_buffer.specs.Buffer.{keep_last}
use Rattle.trace_store.proofs.Evictions.{last_fits}
use Rattle.trace_store.proofs.Sums.{sum_last}
use Rattle.trace_store.proofs.kept.Kept.evict_oldest.Goals as goal

pub overflow_sub-self : goal.overflow_sub-self
overflow_sub-self g c =
    let sized = sum_last (sum_by g.S.SpanSize.size_of) _ _ _ c.in-Some.oldest c.in-Some.ensures in
    omega (arith, sized, c.bytes.ensures, c.self.invariant.2, c.self.invariant.6)

pub invariant_of-self-2 : goal.invariant_of-self-2
invariant_of-self-2 g c =
    let sized = sum_last (sum_by g.S.SpanSize.size_of) _ _ _ c.in-Some.oldest c.in-Some.ensures in
    let counted = sum_last length _ _ _ c.in-Some.oldest c.in-Some.ensures in
    let pushed = c.push_back.ensures.items in
    let more = c.saturating_add-self-inside.ensures in
    let fits : length c.push_back.new.self.items ≤ 1000 =
    omega (
      arith,
      ap (λ b. length b.items) pushed,
      last_fits c.self.inside.last_evicted.capacity
          (c.self.inside.last_evicted.items ++ c.in-Some.trace ∷ []),
      c.self.invariant.3,
    ) in (
      omega (arith, counted, ap length c.spans-spans.ensures, c.self.invariant.0),
      omega arith,
      omega (arith, sized, c.bytes.ensures, c.self.invariant.2, c.self.invariant.6),
      ap (λ b. b.capacity) pushed ∙ c.self.invariant.3,
      fits,
      omega (arith, more),
      omega (arith, c.self.invariant.6),
    )

pub returns-clause-oldest : goal.returns-clause-oldest
returns-clause-oldest g c = (
  (c.in-Some.trace, c.in-Some.oldest),
  sym (ap (λ x. x.traces) c.self.view_is) ∙ c.in-Some.ensures,
  omega (arith, ap length c.spans-spans.ensures, ap (λ x. x.evicted) c.self.view_is),
  omega (arith, c.saturating_add-self-inside.ensures, ap (λ x. x.evicted_traces) c.self.view_is),
  ap (λ b. b.items) c.push_back.ensures.items
      ∙ ap (λ n. keep_last n (c.self.inside.last_evicted.items ++ c.in-Some.trace ∷ []))
      c.self.invariant.3
      ∙ ap (λ x. keep_last 1000 (x.last_evicted ++ c.in-Some.trace ∷ [])) c.self.view_is,
)
