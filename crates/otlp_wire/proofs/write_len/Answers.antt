use Rattle.std.proofs.Common.{arith, refl, length}
use Rattle.std.proofs.lemmas.Grind.{common_steps}
use Rattle.model_message.specs.Wire
use Rattle.model_message.specs.Canon.{shortest, payload_bytes}
use Rattle.model_message.proofs.Varints.{shortest-is}
use Rattle.otlp_wire.proofs.write_len.Goals as goal

pub returns-clause-spelled : goal.returns-clause-spelled
unfolding payload_bytes
returns-clause-spelled g c = let bytes = c.args.bytes.now in record {
  spelling = payload_bytes (Wire.len bytes);
  spells = record {
    size = shortest (length bytes);
    count = shortest-is (length bytes) (omega arith);
    whole = refl;
  };
  whole = grind (arith, common_steps);
}
