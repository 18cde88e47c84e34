use Rattle.otlp_proto.proofs.Values.{bool-member}
use Rattle.otlp_proto.proofs.encoder.values.BoolSubmessage.put.Goals as goal

pub returns : goal.returns
returns g c = bool-member c.args.self.now c.put_varint.ensures
