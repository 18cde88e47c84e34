use Rattle.model_message.specs.Wire.{row}
use Rattle.otlp_wire.proofs.FieldsRead.{FieldsRead}
use Rattle.relay_queue.proofs.Read.{AreIdentifiers}
use Rattle.relay_queue.proofs.names.find_identifiers.Given as goal

-- the identifiers are those of the fields so far
abbrev pub invariant-loop-field : goal.invariant-loop-field
invariant-loop-field l =
    (goal.iterator-loop-field.can_next l.field-iterator) ×
    (goal.iterator-loop-field.is_finite l.field-iterator) ×
    FieldsRead (AreIdentifiers l.found.trace.now l.found.span.now) (row l.content)
    l.field-iterator
