use Rattle.otlp_proto.proofs.Writing.{no-octets-at-all}
use Rattle.otlp_proto.proofs.encoder.spans.put_parent.Goals as goal

pub returns-in_default : goal.returns-in_default
returns-in_default g c = rw c.in_default.is no-octets-at-all
