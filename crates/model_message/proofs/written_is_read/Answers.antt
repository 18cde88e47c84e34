use Rattle.model_message.proofs.Lengths.{canon-reads}
use Rattle.model_message.proofs.written_is_read.Goals as goal

pub returns : goal.returns
returns c = canon-reads
