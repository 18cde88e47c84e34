use Rattle.std.proofs.Common.{◌+◌, ◌-◌, ◌*◌}
use Rattle.model_message.specs.Wire.{row}
use Rattle.otlp_read.specs.Memory.{field_size, message_size}
use Rattle.otlp_read.proofs.MemorySteps.{SizedSoFar}
use Rattle.otlp_read.proofs.memory.+memory.Given as goal

abbrev pub decreases-field_size : goal.decreases-field_size
decreases-field_size l = 2 * l.depth + 1

abbrev pub decreases-message_size : goal.decreases-message_size
decreases-message_size l = 2 * l.depth

-- the bytes of the fields so far
abbrev pub invariant-message_size-loop-field : goal.invariant-message_size-loop-field
invariant-message_size-loop-field l =
    (goal.iterator-message_size-loop-field).can_next l.field-iterator ×
    (goal.iterator-message_size-loop-field).is_finite l.field-iterator ×
    SizedSoFar (field_size (message_size (l.depth - 1)) l.kind)
    (row l.bytes) l.field-iterator l.total
