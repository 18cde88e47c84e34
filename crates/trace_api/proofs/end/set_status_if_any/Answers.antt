use Rattle.trace_api.proofs.Said.{does-none}
use Rattle.trace_api.proofs.end.set_status_if_any.Goals as goal

pub returns-in-None : goal.returns-in-None
returns-in-None c = rw c.in-None.is (does-none _)
