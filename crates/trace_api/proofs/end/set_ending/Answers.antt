use Rattle.std.proofs.Common.{[]}
use Rattle.trace_api.proofs.Said.{does-both, does-none, on-ok}
use Rattle.trace_api.proofs.end.set_ending.Goals as goal

pub returns-in-Some : goal.returns-in-Some
returns-in-Some c =
    rw c.in-Some.is
    (on-ok c.set_error_type.result
    (does-both _ _ _ _ _ c.in_ok-set_status_if_any.ensures) c.set_error_type.ensures)

pub returns-in-None : goal.returns-in-None
returns-in-None c =
    rw c.in-None.is (does-both _ [] _ _ _ c.in_ok-set_status_if_any.ensures (does-none _))
