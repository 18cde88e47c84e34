use Rattle.std.proofs.Common.{◌≡◌, ◌++◌, map}
use Rattle.traced_http.specs.Carried.{fields_of, lent_fields}
use Rattle.traced_http.proofs.server.carrier.fields_in.Given as goal

-- The fields so far, and those that are left, are all.
abbrev pub invariant-loop-name : goal.invariant-loop-name
invariant-loop-name l =
    lent_fields l.list.items ++ map (λ p. (p.0, p.1.bytes)) l.name-iterator ≡ fields_of l.headers
