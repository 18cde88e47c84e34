use Rattle.model_message.specs.Wire.{row}
use Rattle.otlp_wire.proofs.ResponseSteps.{ResponseRead}
use Rattle.otlp_wire.proofs.response.partial_fields.Given as goal

abbrev pub invariant-loop-field : goal.invariant-loop-field
invariant-loop-field l =
    (goal.iterator-loop-field).can_next l.field-iterator ×
    (goal.iterator-loop-field).is_finite l.field-iterator ×
    ResponseRead l.counted (row l.fn.body) l.field-iterator
