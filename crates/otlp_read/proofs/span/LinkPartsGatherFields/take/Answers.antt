use Rattle.std.proofs.Common.{refl, arith}
use Rattle.model_message.specs.Tables
use Rattle.model_message.specs.Tables.{text, bytes, uint32, fixed32, ◌▸◌}
use Rattle.otlp_wire.specs.Fields.{field_of}
use Rattle.otlp_read.proofs.TableSteps.{gathers-more, take-fails}
use Rattle.otlp_read.proofs.span.LinkPartsGatherFields.take.Goals as goal

pub returns-in_err-push_attribute-clause-err : goal.returns-in_err-push_attribute-clause-err
returns-in_err-push_attribute-clause-err g c =
    take-fails 3 Tables.link refl (field_of c.args.field) c.in_err-push_attribute.ensures.err
    (grind arith)

pub returns-clause-ok : goal.returns-clause-ok
returns-clause-ok g c =
    gathers-more Tables.link _ _ (field_of c.args.field)
    (c.last_bytes-self.ensures bytes refl
    ▸ c.last_bytes-self-2.ensures bytes refl
    ▸ c.last_bytes-self-3.ensures text refl
    ▸ c.in_ok-push_attribute.ensures.ok
    ▸ c.last_varint-self.ensures uint32 refl
    ▸ c.last_fixed32-self.ensures fixed32 refl
    ▸ tt)
