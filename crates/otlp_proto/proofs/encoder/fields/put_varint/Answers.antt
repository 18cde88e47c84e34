use Rattle.model_message.specs.Wire
use Rattle.otlp_proto.proofs.Laying.{tagged}
use Rattle.otlp_proto.proofs.encoder.fields.put_varint.Goals as goal

pub returns : goal.returns
returns g c =
    tagged (record { number = c.args.number; payload = Wire.varint c.args.value }) _
    (g.S.Sink.cursor c.put_key.new.sink) _ c.put_key.ensures c.put_varint.ensures
