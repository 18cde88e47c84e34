use Rattle.model_message.specs.Wire.{row}
use Rattle.retry_core.specs.Retries.{fate_view}
use Rattle.otlp_wire.proofs.FieldsRead.{FieldsRead}
use Rattle.relay_queue.specs.Named.{Gains}
use Rattle.relay_queue.specs.Walk.{resource_names}
use Rattle.relay_queue.proofs.names.name_scopes.Given as goal

-- the names of the fields so far are given
abbrev pub invariant-loop-field : goal.invariant-loop-field
invariant-loop-field g l =
    let named = g.S.LostSink.named in
    ((goal.iterator-loop-field g).can_next l.field-iterator) ×
    ((goal.iterator-loop-field g).is_finite l.field-iterator) ×
    FieldsRead (λ fields. Gains (resource_names (fate_view l.fate) fields) (named l.fn.sink)
    (named l.sink)) (row l.content) l.field-iterator
