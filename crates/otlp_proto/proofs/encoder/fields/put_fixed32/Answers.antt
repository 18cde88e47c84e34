use Rattle.model_message.specs.Wire
use Rattle.otlp_proto.proofs.Laying.{tagged}
use Rattle.otlp_proto.proofs.Writing.{some-fixed32, no-fixed32}
use Rattle.otlp_proto.proofs.encoder.fields.put_fixed32.Goals as goal

pub returns-then-value-ne0 : goal.returns-then-value-ne0
returns-then-value-ne0 g c =
    some-fixed32 c.if-value-ne0.true c.ranges.value.fits
    (tagged (record { number = c.args.number; payload = Wire.i32 c.args.value }) _
    (g.S.Sink.cursor c.put_key.new.sink) _ c.put_key.ensures c.put_fixed32.ensures)

pub returns-else-value-ne0 : goal.returns-else-value-ne0
returns-else-value-ne0 g c = rw c.if-value-ne0.false no-fixed32
