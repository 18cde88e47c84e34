use Rattle.model_message.proofs.Fronts.{prefix-free}
use Rattle.model_message.proofs.Varints.{takes-number}
use Rattle.model_message.proofs.Fields.{takes-field}
use Rattle.model_message.proofs.RowLaws.{row-spelled}
use Rattle.model_message.proofs.wire_laws.Goals as goal

pub returns : goal.returns
returns c = record {
  varint = prefix-free _ _ takes-number;
  field = prefix-free _ _ takes-field;
  row = row-spelled;
}
