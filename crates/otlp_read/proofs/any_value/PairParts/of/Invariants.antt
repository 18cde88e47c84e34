use Rattle.model_message.specs.Wire.{row}
use Rattle.otlp_read.specs.Members.{HoldsPair}
use Rattle.otlp_wire.proofs.FieldsRead.{FieldsRead}
use Rattle.otlp_read.proofs.any_value.PairParts.of.Given as goal

abbrev pub invariant-loop-field : goal.invariant-loop-field
invariant-loop-field g l =
    (goal.iterator-loop-field g).can_next l.field-iterator ×
    (goal.iterator-loop-field g).is_finite l.field-iterator ×
    FieldsRead (HoldsPair l.depth l.parts) (row l.content) l.field-iterator
