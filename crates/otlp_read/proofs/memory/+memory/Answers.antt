use Rattle.std.proofs.Common.{◌-◌, ◌∙◌, List, Some, ap, subst, sym}
use Rattle.model_message.specs.Reading.{Reading}
use Rattle.model_message.specs.Wire.{Field, row}
use Rattle.otlp_wire.specs.Fields.{GivesField}
use Rattle.otlp_read.specs.Memory.{at_most_64_bits, field_size, message_size}
use Rattle.otlp_read.proofs.MemorySteps.{all_sized, message_none, message_step}
use Rattle.otlp_read.proofs.memory.+memory.Goals as goal

pub message_size-returns-then-depth-eq0 : goal.message_size-returns-then-depth-eq0
message_size-returns-then-depth-eq0 t c =
    message_none c.args.depth c.args.kind c.args.bytes.now c.if-depth-eq0.true

pub message_size-returns-in_default : goal.message_size-returns-in_default
message_size-returns-in_default t c =
    let gives =
    subst (λ r. GivesField c.loop-field.field-iterator (Some r) c.next.new.self) c.in_default.is
    c.in-Some.ensures.steps in
    all_sized (field_size (message_size (c.args.depth - 1)) c.args.kind)
    (row c.args.bytes.now) c.loop-field.field-iterator c.loop-field.total c.loop-field.invariant.2
    (ap (λ (r : Reading (List Field)). r.value) gives.0)
    ∙ ap at_most_64_bits
    (sym (message_step c.args.depth c.args.kind c.args.bytes.now c.if-depth-eq0.false))

pub message_size-returns : goal.message_size-returns
message_size-returns t c =
    all_sized (field_size (message_size (c.args.depth - 1)) c.args.kind)
    (row c.args.bytes.now) c.loop-field.field-iterator c.loop-field.total c.loop-field.invariant.2
    (ap (λ (r : Reading (List Field)). r.value) c.in-None.ensures.steps.0)
    ∙ ap at_most_64_bits
    (sym (message_step c.args.depth c.args.kind c.args.bytes.now c.if-depth-eq0.false))
