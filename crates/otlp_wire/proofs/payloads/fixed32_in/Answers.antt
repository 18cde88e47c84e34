use Rattle.otlp_wire.specs.Fields.{field_of}
use Rattle.otlp_wire.proofs.OnePayload.{other-number, found-one, no-one, is-fixed32}
use Rattle.otlp_wire.proofs.payloads.fixed32_in.Goals as goal

pub returns-in_default : goal.returns-in_default
returns-in_default c =
    no-one c.args.field c.args.number 5 (is-fixed32 c.args.field.payload c.in_default.not-I32)

pub returns-then-field-number : goal.returns-then-field-number
returns-then-field-number c =
    λ s w. other-number c.args.number s (field_of c.args.field) c.if-field-number.true

pub returns : goal.returns
returns c =
    found-one c.args.field c.args.number _ c.in-I32.is c.if-field-number.false
