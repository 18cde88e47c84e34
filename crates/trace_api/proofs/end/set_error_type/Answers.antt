use Rattle.trace_api.proofs.Said.{does-two, on-ok}
use Rattle.trace_api.proofs.end.set_error_type.Goals as goal

pub returns : goal.returns
returns c =
    on-ok c.set_error.result (does-two _ _ _ _ _ c.in_ok-set.ensures.ok) c.set_error.ensures.ok
