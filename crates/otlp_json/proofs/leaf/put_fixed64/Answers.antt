use Rattle.std.proofs.Common.{arith}
use Rattle.model_message.specs.Wire.{i64}
use Rattle.otlp_json.proofs.Spelled.{tagged}
use Rattle.otlp_json.proofs.leaf.put_fixed64.Goals as goal

pub returns : goal.returns
returns g c =
    tagged c.args.number _ (i64 c.args.value) _ _ _ (omega arith)
    c.in_ok-write_varint.ensures.canonical c.in_ok-write_fixed64.ensures.canonical
