use Rattle.model_message.specs.Canon.{payload_bytes}
use Rattle.otlp_wire.proofs.places.put_fixed32.Goals as goal

pub put_bytes-requires : goal.put_bytes-requires
unfolding payload_bytes
put_bytes-requires c = rw c.to_le_bytes.ensures c.requires

pub returns : goal.returns
unfolding payload_bytes
returns c = rw c.to_le_bytes.ensures at c.put_bytes.ensures
