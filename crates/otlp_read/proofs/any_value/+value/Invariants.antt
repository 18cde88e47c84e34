use Rattle.std.proofs.Common.{◌+◌, ◌*◌, take}
use Rattle.model_message.specs.Tables
use Rattle.model_message.specs.Tables.{message, any, ◌▸◌}
use Rattle.model_message.specs.Messages.{value}
use Rattle.otlp_read.specs.Values.{values_view, pairs_view}
use Rattle.otlp_wire.specs.Gathering.{IsKept}
use Rattle.otlp_read.specs.Members.{parts_view}
use Rattle.otlp_read.proofs.ValueSteps.{ListRead}
use Rattle.otlp_read.proofs.any_value.+value.Given as goal

abbrev pub decreases-value_of : goal.decreases-value_of
decreases-value_of g l = 4 * l.depth + 3

abbrev pub decreases-read_values : goal.decreases-read_values
decreases-read_values g l = 4 * l.depth + 2

abbrev pub decreases-read_pairs : goal.decreases-read_pairs
decreases-read_pairs g l = 4 * l.depth + 2

abbrev pub decreases-push_values : goal.decreases-push_values
decreases-push_values g l = 4 * l.depth + 1

abbrev pub decreases-push_pairs : goal.decreases-push_pairs
decreases-push_pairs g l = 4 * l.depth + 1

abbrev pub decreases-read_value : goal.decreases-read_value
decreases-read_value g l = 4 * l.depth

abbrev pub decreases-read_pair : goal.decreases-read_pair
decreases-read_pair g l = 4 * l.depth

abbrev pub invariant-push_values-loop-field : goal.invariant-push_values-loop-field
invariant-push_values-loop-field g l =
    (goal.iterator-push_values-loop-field g).can_next l.field-iterator ×
    (goal.iterator-push_values-loop-field g).is_finite l.field-iterator ×
    ListRead (value l.depth) any (values_view l.fn.values.items) (values_view l.values.items) l.part
    l.field-iterator

abbrev pub invariant-push_pairs-loop-field : goal.invariant-push_pairs-loop-field
invariant-push_pairs-loop-field g l =
    (goal.iterator-push_pairs-loop-field g).can_next l.field-iterator ×
    (goal.iterator-push_pairs-loop-field g).is_finite l.field-iterator ×
    ListRead (value l.depth) (message Tables.key_value) (pairs_view l.fn.pairs.items)
    (pairs_view l.pairs.items) l.part l.field-iterator

abbrev pub invariant-read_values-loop-part : goal.invariant-read_values-loop-part
invariant-read_values-loop-part g l =
    IsKept (value l.depth) (message Tables.array_value) (values_view l.values.items ▸ tt)
    (parts_view (take l.part-index l.parts))

abbrev pub invariant-read_pairs-loop-part : goal.invariant-read_pairs-loop-part
invariant-read_pairs-loop-part g l =
    IsKept (value l.depth) (message Tables.key_value_list) (pairs_view l.pairs.items ▸ tt)
    (parts_view (take l.part-index l.parts))
