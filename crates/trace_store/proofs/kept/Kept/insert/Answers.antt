use Rattle.std.proofs.Common.{ap, arith, length, ◌∙◌}
use Rattle.std.specs.Prelude.{sum_by}
use Rattle.trace_store.specs.Traces.{byte_count, span_count}
use Rattle.trace_store.proofs.Sums.{spans_le, with_bytes, with_count}
use Rattle.trace_store.proofs.kept.Kept.insert.Goals as goal

pub add-requires : goal.add-requires
add-requires g c =
    record {
      fits =
          omega (
            arith,
            spans_le c.self.inside.traces.entries c.args.trace,
            ap length c.in_ok-part.ensures,
            c.self.invariant.0,
          );
    }

pub invariant_of-self-2 : goal.invariant_of-self-2
invariant_of-self-2 g c =
    let entries = ap (λ x. x.entries) c.in_ok-add.ensures.ok in
    let counted =
    ap span_count entries
    ∙ with_count c.self.inside.traces.entries c.args.trace c.in_ok-part.part in
    let sized =
    ap (byte_count g.S.SpanSize.size_of) entries
    ∙ with_bytes g.S.SpanSize.size_of c.self.inside.traces.entries c.args.trace c.in_ok-part.part in
    let count = ap length c.in_ok-part.ensures in
    let size = ap (sum_by g.S.SpanSize.size_of) c.in_ok-part.ensures in (
      omega (arith, counted, count, c.self.invariant.0),
      omega arith,
      omega (arith, sized, size, c.self.invariant.2),
      c.self.invariant.3,
      c.self.invariant.4,
      c.self.invariant.5,
      omega arith,
    )
