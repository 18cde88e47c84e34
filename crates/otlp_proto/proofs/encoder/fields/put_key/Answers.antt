use Rattle.model_message.specs.Canon.{payload_bytes}
use Rattle.otlp_proto.proofs.encoder.fields.put_key.Goals as goal

pub returns : goal.returns
unfolding payload_bytes
returns g c = rw (← c.number.ensures.value) c.put_varint.ensures
