use Rattle.std.proofs.Common.{arith}
use Rattle.otlp_proto.proofs.encoder.messages.encoded_len.Goals as goal

pub returns : goal.returns
returns g c = record {
  size =
      omega
      (arith, c.put.ensures.bytes, c.new-length.ensures, c.len.ensures.value, c.len.ensures.small);
  whole = c.put.ensures.whole;
}
