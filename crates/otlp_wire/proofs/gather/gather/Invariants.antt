use Rattle.model_message.specs.Wire.{row}
use Rattle.model_message.specs.Messages.{value, max_depth}
use Rattle.otlp_wire.specs.Gathering.{IsGathered}
use Rattle.otlp_wire.proofs.FieldsRead.{FieldsRead}
use Rattle.otlp_wire.proofs.GatherSteps.{After}
use Rattle.otlp_wire.proofs.gather.gather.Given as goal

abbrev pub invariant-loop-field : goal.invariant-loop-field
invariant-loop-field g l =
    let gathered = g.G.GatherFields.gathered in
    ((goal.iterator-loop-field g).can_next l.field-iterator) ×
    ((goal.iterator-loop-field g).is_finite l.field-iterator) ×
    FieldsRead (After (IsGathered (value max_depth) g.G.GatherFields.table) (gathered l.fn.gathered)
    (gathered l.gathered))
    (row l.content) l.field-iterator
