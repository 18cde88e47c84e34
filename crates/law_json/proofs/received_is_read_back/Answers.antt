use Rattle.law_json.proofs.TraceBack.{received_is_read_back}
use Rattle.law_json.proofs.received_is_read_back.Goals as goal

pub returns : goal.returns
returns g c = received_is_read_back _
