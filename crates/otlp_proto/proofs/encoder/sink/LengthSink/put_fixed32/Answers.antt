use Rattle.std.proofs.Common.{refl}
use Rattle.model_message.specs.Canon.{payload_bytes}
use Rattle.otlp_proto.proofs.Laying.{count-saturates}
use Rattle.otlp_proto.proofs.encoder.sink.LengthSink.put_fixed32.Goals as goal

pub returns : goal.returns
unfolding payload_bytes
returns c = count-saturates c.args.self.now.0 _ _ _ c.add.ensures refl
