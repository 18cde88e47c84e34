use Rattle.std.proofs.Common.{length}
use Rattle.model_message.specs.Wire
use Rattle.model_message.specs.Canon.{shortest, payload_bytes}
use Rattle.otlp_proto.proofs.Laying.{tagged, lays-both}
use Rattle.otlp_proto.proofs.encoder.fields.put_len.Goals as goal

pub returns : goal.returns
unfolding payload_bytes
returns g c =
    let bytes = c.args.bytes.now in
    tagged (record { number = c.args.number; payload = Wire.len bytes }) _
    (g.S.Sink.cursor c.put_key.new.sink) _ c.put_key.ensures
    (lays-both (shortest (length bytes)) bytes _
    (g.S.Sink.cursor c.put_varint.new.self) _ c.put_varint.ensures c.put_bytes.ensures)
