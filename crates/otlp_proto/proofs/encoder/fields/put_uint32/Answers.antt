use Rattle.otlp_proto.proofs.Writing.{some-uint32, no-uint32}
use Rattle.otlp_proto.proofs.encoder.fields.put_uint32.Goals as goal

pub returns-then-value-ne0 : goal.returns-then-value-ne0
returns-then-value-ne0 g c =
    some-uint32 c.if-value-ne0.true c.ranges.value.fits c.put_varint.ensures

pub returns-else-value-ne0 : goal.returns-else-value-ne0
returns-else-value-ne0 g c = rw c.if-value-ne0.false no-uint32
