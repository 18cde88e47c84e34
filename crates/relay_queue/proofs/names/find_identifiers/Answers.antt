use Rattle.std.proofs.Common.{refl, sym, ◌∙◌}
use Rattle.model_message.specs.Wire.{row}
use Rattle.model_message.specs.Tables.{bytes}
use Rattle.otlp_wire.specs.Fields.{field_of}
use Rattle.otlp_wire.proofs.FieldsRead.{read-more, read-none}
use Rattle.relay_queue.proofs.Read.{AreIdentifiers, no-identifiers}
use Rattle.relay_queue.proofs.names.find_identifiers.Goals as goal

pub loop-field-init : goal.loop-field-init
loop-field-init c = (
  tt,
  tt,
  read-none
      (AreIdentifiers c.args.found.now.trace.now c.args.found.now.span.now)
      (row c.args.content.now) _ (no-identifiers _ _ c.requires.trace c.requires.span)
      (sym c.new-field-items.ensures.whole
      ∙ sym c.into_iter-field-iterator.ensures.into_iter_gives),
)

pub loop-field-preserved : goal.loop-field-preserved
loop-field-preserved c =
    let gives = rw c.in_ok-field.was at c.in-Some.ensures.steps in
    let f = field_of c.in_ok-field.field in (
      tt,
      tt,
      read-more
          (AreIdentifiers c.loop-field.found.trace.now c.loop-field.found.span.now)
          (AreIdentifiers c.last_bytes-found.result.now c.last_bytes-found-in-loop-field.result.now)
          (row c.args.content.now) _ _ f c.loop-field.invariant.2 gives
          (λ fields h. record {
            trace_is = c.last_bytes-found.ensures bytes refl fields h.trace_is;
            span_is = c.last_bytes-found-in-loop-field.ensures bytes refl fields h.span_is;
          }),
    )
