use Rattle.otlp_wire.proofs.VarintSteps.{one-byte}
use Rattle.otlp_wire.proofs.reader.read_varint.Goals as goal

pub returns-in-Some : goal.returns-in-Some
returns-in-Some c = one-byte _ _ _ _ c.in-Some.ensures.cases.0 c.from.ensures c.if-byte-lt128.true
