use Rattle.std.proofs.Common.{refl, arith}
use Rattle.model_message.specs.Tables
use Rattle.model_message.specs.Tables.{◌▸◌}
use Rattle.otlp_wire.specs.Fields.{field_of}
use Rattle.otlp_read.proofs.TableSteps.{gathers-more, take-fails}
use Rattle.otlp_read.proofs.request.RequestPartsGatherFields.take.Goals as goal

pub returns-in_err-push_message-clause-err : goal.returns-in_err-push_message-clause-err
returns-in_err-push_message-clause-err g c =
    take-fails 0 Tables.request refl (field_of c.args.field) c.in_err-push_message.ensures.err
    (grind arith)

pub returns-clause-ok : goal.returns-clause-ok
returns-clause-ok g c =
    gathers-more Tables.request _ _ (field_of c.args.field)
    (c.in_ok-push_message.ensures.ok
    ▸ tt)
