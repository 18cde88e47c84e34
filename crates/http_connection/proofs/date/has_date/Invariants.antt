use Rattle.std.proofs.Common.{◌≡◌, length}
use Rattle.http_server.specs.Response.{fields}
use Rattle.http_connection.specs.Dates.{has_date}
use Rattle.http_connection.proofs.date.has_date.Given as goal

-- those that are done are others
abbrev pub invariant-loop-rest : goal.invariant-loop-rest
invariant-loop-rest l = has_date (fields l.rest) ≡ has_date (fields l.headers)

abbrev pub decreases-loop-rest : goal.decreases-loop-rest
decreases-loop-rest l = length l.rest
