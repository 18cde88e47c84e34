use Rattle.model_message.specs.Wire.{row}
use Rattle.otlp_wire.proofs.FieldsRead.{FieldsRead}
use Rattle.otlp_read.proofs.MemberSteps.{Leads}
use Rattle.otlp_read.proofs.any_value.Member.with_fields.Given as goal

abbrev pub invariant-loop-field : goal.invariant-loop-field
invariant-loop-field g l =
    (goal.iterator-loop-field g).can_next l.field-iterator ×
    (goal.iterator-loop-field g).is_finite l.field-iterator ×
    FieldsRead (Leads l.fn.self l.member) (row l.fn.content) l.field-iterator
