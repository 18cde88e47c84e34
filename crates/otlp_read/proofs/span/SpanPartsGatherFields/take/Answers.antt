use Rattle.std.proofs.Common.{refl, arith, rules}
use Rattle.model_message.specs.Tables
use Rattle.model_message.specs.Tables.{text, bytes, uint32, enum, fixed64, fixed32, ◌▸◌}
use Rattle.otlp_wire.specs.Fields.{field_of}
use Rattle.otlp_read.proofs.TableSteps.{take-fails}
use Rattle.otlp_read.proofs.FieldSteps.{gathers-at, others-stay}
use Rattle.otlp_read.proofs.span.SpanPartsGatherFields.take.Goals as goal

pub returns-in_err-push_attribute-in-9-clause-err :
    goal.returns-in_err-push_attribute-in-9-clause-err
returns-in_err-push_attribute-in-9-clause-err g c =
    take-fails 8 Tables.span refl (field_of c.args.field) c.in_err-push_attribute-in-9.ensures.err
    (grind arith)

pub returns-in_err-push_message-in-11-clause-err : goal.returns-in_err-push_message-in-11-clause-err
returns-in_err-push_message-in-11-clause-err g c =
    take-fails 10 Tables.span refl (field_of c.args.field) c.in_err-push_message-in-11.ensures.err
    (grind arith)

pub returns-in_err-push_message-in-13-clause-err : goal.returns-in_err-push_message-in-13-clause-err
returns-in_err-push_message-in-13-clause-err g c =
    take-fails 12 Tables.span refl (field_of c.args.field) c.in_err-push_message-in-13.ensures.err
    (grind arith)

pub returns-in_err-take_in-in-15-clause-err : goal.returns-in_err-take_in-in-15-clause-err
returns-in_err-take_in-in-15-clause-err g c =
    take-fails 14 Tables.span refl (field_of c.args.field) c.in_err-take_in-in-15.ensures.err
    (grind arith)

pub returns-in-1-clause-ok : goal.returns-in-1-clause-ok
returns-in-1-clause-ok g c =
    gathers-at 0 Tables.span 1 _ _ (field_of c.args.field) c.in-1.is refl
    ((c.last_bytes-self.ensures bytes refl) ▸ refl)

pub returns-in-2-clause-ok : goal.returns-in-2-clause-ok
returns-in-2-clause-ok g c =
    gathers-at 1 Tables.span 2 _ _ (field_of c.args.field) c.in-2.is refl
    (refl ▸ (c.last_bytes-self-in-2.ensures bytes refl) ▸ refl)

pub returns-in-3-clause-ok : goal.returns-in-3-clause-ok
returns-in-3-clause-ok g c =
    gathers-at 2 Tables.span 3 _ _ (field_of c.args.field) c.in-3.is refl
    (refl ▸ refl ▸ (c.last_bytes-self-in-3.ensures text refl) ▸ refl)

pub returns-in-4-clause-ok : goal.returns-in-4-clause-ok
returns-in-4-clause-ok g c =
    gathers-at 3 Tables.span 4 _ _ (field_of c.args.field) c.in-4.is refl
    (refl ▸ refl ▸ refl ▸ (c.last_bytes-self-in-4.ensures bytes refl) ▸ refl)

pub returns-in-5-clause-ok : goal.returns-in-5-clause-ok
returns-in-5-clause-ok g c =
    gathers-at 4 Tables.span 5 _ _ (field_of c.args.field) c.in-5.is refl
    (refl ▸ refl ▸ refl ▸ refl ▸ (c.last_bytes-self-in-5.ensures text refl) ▸ refl)

pub returns-in-6-clause-ok : goal.returns-in-6-clause-ok
returns-in-6-clause-ok g c =
    gathers-at 5 Tables.span 6 _ _ (field_of c.args.field) c.in-6.is refl
    (refl ▸ refl ▸ refl ▸ refl ▸ refl ▸ (c.last_varint-self.ensures enum refl) ▸ refl)

pub returns-in-7-clause-ok : goal.returns-in-7-clause-ok
returns-in-7-clause-ok g c =
    gathers-at 6 Tables.span 7 _ _ (field_of c.args.field) c.in-7.is refl
    (refl ▸ refl ▸ refl ▸ refl ▸ refl ▸ refl ▸ (c.last_fixed64-self.ensures fixed64 refl) ▸ refl)

pub returns-in-8-clause-ok : goal.returns-in-8-clause-ok
returns-in-8-clause-ok g c =
    gathers-at 7 Tables.span 8 _ _ (field_of c.args.field) c.in-8.is refl
    (refl ▸ refl ▸ refl ▸ refl ▸ refl ▸ refl ▸ refl
    ▸ (c.last_fixed64-self-in-8.ensures fixed64 refl) ▸ refl)

pub returns-in_ok-push_attribute-in-9-clause-ok : goal.returns-in_ok-push_attribute-in-9-clause-ok
returns-in_ok-push_attribute-in-9-clause-ok g c =
    gathers-at 8 Tables.span 9 _ _ (field_of c.args.field) c.in-9.is refl
    (refl ▸ refl ▸ refl ▸ refl ▸ refl ▸ refl ▸ refl ▸ refl ▸ c.in_ok-push_attribute-in-9.ensures.ok
    ▸ refl)

pub returns-in-10-clause-ok : goal.returns-in-10-clause-ok
returns-in-10-clause-ok g c =
    gathers-at 9 Tables.span 10 _ _ (field_of c.args.field) c.in-10.is refl
    (refl ▸ refl ▸ refl ▸ refl ▸ refl ▸ refl ▸ refl ▸ refl ▸ refl
    ▸ (c.last_varint-self-in-10.ensures uint32 refl) ▸ refl)

pub returns-in_ok-push_message-in-11-clause-ok : goal.returns-in_ok-push_message-in-11-clause-ok
returns-in_ok-push_message-in-11-clause-ok g c =
    gathers-at 10 Tables.span 11 _ _ (field_of c.args.field) c.in-11.is refl
    (refl ▸ refl ▸ refl ▸ refl ▸ refl ▸ refl ▸ refl ▸ refl ▸ refl ▸ refl
    ▸ c.in_ok-push_message-in-11.ensures.ok ▸ refl)

pub returns-in-12-clause-ok : goal.returns-in-12-clause-ok
returns-in-12-clause-ok g c =
    gathers-at 11 Tables.span 12 _ _ (field_of c.args.field) c.in-12.is refl
    (refl ▸ refl ▸ refl ▸ refl ▸ refl ▸ refl ▸ refl ▸ refl ▸ refl ▸ refl ▸ refl
    ▸ (c.last_varint-self-in-12.ensures uint32 refl) ▸ refl)

pub returns-in_ok-push_message-in-13-clause-ok : goal.returns-in_ok-push_message-in-13-clause-ok
returns-in_ok-push_message-in-13-clause-ok g c =
    gathers-at 12 Tables.span 13 _ _ (field_of c.args.field) c.in-13.is refl
    (refl ▸ refl ▸ refl ▸ refl ▸ refl ▸ refl ▸ refl ▸ refl ▸ refl ▸ refl ▸ refl ▸ refl
    ▸ c.in_ok-push_message-in-13.ensures.ok ▸ refl)

pub returns-in-14-clause-ok : goal.returns-in-14-clause-ok
returns-in-14-clause-ok g c =
    gathers-at 13 Tables.span 14 _ _ (field_of c.args.field) c.in-14.is refl
    (refl ▸ refl ▸ refl ▸ refl ▸ refl ▸ refl ▸ refl ▸ refl ▸ refl ▸ refl ▸ refl ▸ refl ▸ refl
    ▸ (c.last_varint-self-in-14.ensures uint32 refl) ▸ refl)

pub returns-in_ok-take_in-in-15-clause-ok : goal.returns-in_ok-take_in-in-15-clause-ok
returns-in_ok-take_in-in-15-clause-ok g c =
    gathers-at 14 Tables.span 15 _ _ (field_of c.args.field) c.in-15.is refl
    (refl ▸ refl ▸ refl ▸ refl ▸ refl ▸ refl ▸ refl ▸ refl ▸ refl ▸ refl ▸ refl ▸ refl ▸ refl ▸ refl
    ▸ c.in_ok-take_in-in-15.ensures.ok ▸ refl)

pub returns-in-16-clause-ok : goal.returns-in-16-clause-ok
returns-in-16-clause-ok g c =
    gathers-at 15 Tables.span 16 _ _ (field_of c.args.field) c.in-16.is refl
    (refl ▸ refl ▸ refl ▸ refl ▸ refl ▸ refl ▸ refl ▸ refl ▸ refl ▸ refl ▸ refl ▸ refl ▸ refl ▸ refl
    ▸ refl ▸ (c.last_fixed32-self.ensures fixed32 refl) ▸ refl)

pub returns-in_default-clause-ok : goal.returns-in_default-clause-ok
returns-in_default-clause-ok g c =
    others-stay Tables.span _ (field_of c.args.field)
    (search rules)
