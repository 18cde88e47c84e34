use Rattle.std.proofs.Common.{refl}
use Rattle.otlp_proto.proofs.Laying.{count-saturates}
use Rattle.otlp_proto.proofs.encoder.sink.LengthSink.put_bytes.Goals as goal

pub returns : goal.returns
returns c = count-saturates c.args.self.now.0 _ _ _ c.add.ensures refl
