use Rattle.model_message.specs.Tables
use Rattle.model_message.specs.Wire.{row}
use Rattle.model_message.specs.Messages.{value, max_depth}
use Rattle.otlp_wire.specs.Gathering.{IsGathered}
use Rattle.otlp_read.specs.Resources.{scope_gathered}
use Rattle.otlp_wire.proofs.FieldsRead.{FieldsRead}
use Rattle.otlp_wire.proofs.GatherSteps.{After}
use Rattle.otlp_read.proofs.resource.InstrumentationScopeParts.take_all.Given as goal

abbrev pub invariant-loop-field : goal.invariant-loop-field
invariant-loop-field g l =
    ((goal.iterator-loop-field g).can_next l.field-iterator) ×
    ((goal.iterator-loop-field g).is_finite l.field-iterator) ×
    FieldsRead (After (IsGathered (value max_depth) Tables.scope) (scope_gathered l.fn.self)
    (scope_gathered l.self))
    (row l.content) l.field-iterator
