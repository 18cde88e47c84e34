use Rattle.trace_context.proofs.ReadBack.{read_back}
use Rattle.trace_context.proofs.write.traceparents_are_read_back.Goals as goal

pub returns : goal.returns
returns c = read_back
