use Rattle.otlp_proto.proofs.Laying.{count-skips}
use Rattle.otlp_proto.proofs.encoder.sink.LengthSink.skip.Goals as goal

pub returns : goal.returns
returns c = λ bytes size. count-skips c.args.self.now.0 _ _ _ c.add.ensures size
