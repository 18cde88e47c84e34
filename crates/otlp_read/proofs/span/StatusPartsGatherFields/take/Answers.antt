use Rattle.std.proofs.Common.{refl}
use Rattle.model_message.specs.Tables
use Rattle.model_message.specs.Tables.{text, enum, ◌▸◌}
use Rattle.otlp_wire.specs.Fields.{field_of}
use Rattle.otlp_read.proofs.TableSteps.{gathers-more}
use Rattle.otlp_read.proofs.span.StatusPartsGatherFields.take.Goals as goal

pub returns-clause-ok : goal.returns-clause-ok
returns-clause-ok g c =
    gathers-more Tables.status _ _ (field_of c.args.field)
    (c.last_bytes-self.ensures text refl
    ▸ c.last_varint-self.ensures enum refl
    ▸ tt)
