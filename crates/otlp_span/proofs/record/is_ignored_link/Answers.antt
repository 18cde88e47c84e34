use Rattle.std.proofs.Common.{sym, ◌∙◌}
use Rattle.otlp_ids.specs.SpanContext.{context_view}
use Rattle.otlp_value.specs.Value.{attributes_view}
use Rattle.otlp_span.proofs.Recorded.{no-pairs-length, pairs-count, valid-counts}
use Rattle.otlp_span.proofs.record.is_ignored_link.Goals as goal
use Rattle.otlp_span.proofs.record.is_ignored_link.Goals.{then-not-is_valid, else-not-is_valid}

pub returns-else-is_empty : goal.returns-else-is_empty
returns-else-is_empty g c =
    let to = context_view c.args.span_context.now in
    let pairs = attributes_view c.args.attributes.now in
    elim c.if-not-is_valid.branch [
      | then-not-is_valid w ↦
          c.if-is_empty.false
          ∙ sym (pairs-count to pairs
          (no-pairs-length c.args.attributes.now ∙ sym w.is_empty.ensures ∙ sym w.value-is
          ∙ c.if-is_empty.false))
      | else-not-is_valid w ↦
          c.if-is_empty.false
          ∙ sym (valid-counts to pairs (sym c.is_valid.ensures ∙ w.if-not-is_valid.false))
    ]
