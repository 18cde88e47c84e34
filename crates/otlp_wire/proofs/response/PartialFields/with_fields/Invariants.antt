use Rattle.model_message.specs.Wire.{row}
use Rattle.otlp_wire.proofs.ResponseSteps.{PartRead}
use Rattle.otlp_wire.proofs.response.PartialFields.with_fields.Given as goal

abbrev pub invariant-loop-field : goal.invariant-loop-field
invariant-loop-field l =
    (goal.iterator-loop-field).can_next l.field-iterator ×
    (goal.iterator-loop-field).is_finite l.field-iterator ×
    PartRead l.fn.self l.counted (row l.fn.content) l.field-iterator
