use Rattle.model_message.specs.Wire
use Rattle.otlp_proto.proofs.Laying.{tagged}
use Rattle.otlp_proto.proofs.Writing.{some-fixed64, no-fixed64}
use Rattle.otlp_proto.proofs.encoder.fields.put_fixed64.Goals as goal

pub returns-then-value-ne0 : goal.returns-then-value-ne0
returns-then-value-ne0 g c =
    some-fixed64 c.if-value-ne0.true c.ranges.value.fits
    (tagged (record { number = c.args.number; payload = Wire.i64 c.args.value }) _
    (g.S.Sink.cursor c.put_key.new.sink) _ c.put_key.ensures c.put_fixed64.ensures)

pub returns-else-value-ne0 : goal.returns-else-value-ne0
returns-else-value-ne0 g c = rw c.if-value-ne0.false no-fixed64
