use Rattle.trace_context.proofs.Carried.{contexts_read_back}
use Rattle.trace_context.proofs.carrier.contexts_are_read_back.Goals as goal

pub returns : goal.returns
returns c = contexts_read_back
