use Rattle.std.proofs.Common.{refl}
use Rattle.model_message.specs.Tables
use Rattle.model_message.specs.Tables.{message, repeated}
use Rattle.retry_core.specs.Retries.{fate_view}
use Rattle.otlp_wire.specs.Fields.{field_of}
use Rattle.relay_queue.proofs.Read.{no-resource, one-resource}
use Rattle.relay_queue.proofs.names.name_scope.Goals as goal

pub returns-in_default : goal.returns-in_default
returns-in_default g c =
    no-resource (fate_view c.args.fate) (field_of c.args.field) _
    (c.in_default.ensures (repeated (message Tables.scope_spans)) refl)

pub returns : goal.returns
returns g c =
    one-resource (fate_view c.args.fate) (field_of c.args.field) c.in-Some.content.now _ _
    (c.in-Some.ensures (repeated (message Tables.scope_spans)) refl) c.name_spans.ensures
