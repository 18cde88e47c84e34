use Rattle.std.proofs.Common.{arith}
use Rattle.otlp_proto.proofs.Writing.{some-enum, no-enum}
use Rattle.otlp_proto.proofs.encoder.fields.put_enum.Goals as goal

pub returns-then-value-ne0 : goal.returns-then-value-ne0
returns-then-value-ne0 g c =
    some-enum c.if-value-ne0.true (omega (arith, c.ranges.value.fits)) c.put_varint.ensures

pub returns-else-value-ne0 : goal.returns-else-value-ne0
returns-else-value-ne0 g c = rw c.if-value-ne0.false no-enum
