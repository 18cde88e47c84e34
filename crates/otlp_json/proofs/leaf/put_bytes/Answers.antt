use Rattle.std.proofs.Common.{arith}
use Rattle.model_message.specs.Wire.{len}
use Rattle.otlp_json.proofs.Spelled.{tagged}
use Rattle.otlp_json.proofs.leaf.put_bytes.Goals as goal

pub returns : goal.returns
returns g c =
    tagged c.args.number _ (len c.args.bytes.now) _ _ _ (omega arith)
    c.in_ok-write_varint.ensures.canonical c.in_ok-write_len.ensures.canonical
