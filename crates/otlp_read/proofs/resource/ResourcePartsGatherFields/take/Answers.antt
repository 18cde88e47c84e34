use Rattle.std.proofs.Common.{refl, arith}
use Rattle.model_message.specs.Tables
use Rattle.model_message.specs.Tables.{uint32, ◌▸◌}
use Rattle.otlp_wire.specs.Fields.{field_of}
use Rattle.otlp_read.proofs.TableSteps.{gathers-more, take-fails}
use Rattle.otlp_read.proofs.resource.ResourcePartsGatherFields.take.Goals as goal

pub returns-in_err-push_attribute-clause-err : goal.returns-in_err-push_attribute-clause-err
returns-in_err-push_attribute-clause-err g c =
    take-fails 0 Tables.resource refl (field_of c.args.field) c.in_err-push_attribute.ensures.err
    (grind arith)

pub returns-clause-ok : goal.returns-clause-ok
returns-clause-ok g c =
    gathers-more Tables.resource _ _ (field_of c.args.field)
    (c.in_ok-push_attribute.ensures.ok
    ▸ c.last_varint-self.ensures uint32 refl
    ▸ tt)
