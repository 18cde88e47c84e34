use Rattle.law_json.proofs.TraceBack.{trace_is_read_back}
use Rattle.law_json.proofs.trace_is_read_back.Goals as goal

pub returns : goal.returns
returns g c = trace_is_read_back _
