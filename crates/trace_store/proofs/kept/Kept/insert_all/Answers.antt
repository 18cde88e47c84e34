use Rattle.std.proofs.Common.{ap, arith, length, ◌∙◌}
use Rattle.std.specs.Prelude.{sum_by}
use Rattle.trace_store.specs.Traces.{byte_count, span_count}
use Rattle.trace_store.proofs.PartLemmas.{order_sum, with_parts_bytes, with_parts_count}
use Rattle.trace_store.proofs.kept.Kept.insert_all.Goals as goal

pub add_all-requires : goal.add_all-requires
add_all-requires g c =
    let count = ap span_count c.deref.ensures.value in
    omega (arith, count, c.in-Some.ensures, c.self.invariant.0)

pub invariant_of-self-2 : goal.invariant_of-self-2
invariant_of-self-2 g c =
    let count = ap span_count c.deref.ensures.value in
    let size = ap (byte_count g.S.SpanSize.size_of) c.deref-2.ensures.value in
    let done = c.in_ok-add_all.ensures.ok in
    let entries = ap (λ x. x.entries) done.2 in
    let counted = ap span_count entries ∙ with_parts_count c.self.inside.traces.entries done.0 in
    let sized =
    ap (byte_count g.S.SpanSize.size_of) entries
    ∙ with_parts_bytes g.S.SpanSize.size_of c.self.inside.traces.entries done.0 in
    let same_count = order_sum length c.args.parts.items done.0 done.1 in
    let same_size = order_sum (sum_by g.S.SpanSize.size_of) c.args.parts.items done.0 done.1 in (
      omega (arith, count, counted, same_count, c.in-Some.ensures, c.self.invariant.0),
      omega (arith, c.in-Some.ensures),
      omega (
        arith,
        size,
        sized,
        same_size,
        c.in-Some-byte_total.ensures,
        c.in-Some-checked_add.ensures,
        c.self.invariant.2,
      ),
      c.self.invariant.3,
      c.self.invariant.4,
      c.self.invariant.5,
      omega arith,
    )
