use Rattle.std.proofs.Common.{◌≡◌, bytes_eq, length}
use Rattle.std.specs.List.{list_any}
use Rattle.traced_http.specs.Methods.{lent_methods}
use Rattle.traced_http.proofs.method.is_listed.Given as goal

-- those that are done are others
abbrev pub invariant-loop-rest : goal.invariant-loop-rest
invariant-loop-rest l =
    list_any (bytes_eq l.method) (lent_methods l.rest)
    ≡ list_any (bytes_eq l.method) (lent_methods l.listed)

abbrev pub decreases-loop-rest : goal.decreases-loop-rest
decreases-loop-rest l = length l.rest
