use Rattle.std.proofs.Common.{◌≡◌, false}
use Rattle.http_connection.specs.Connections.{max_body_of, pending_of, place_of, work}
use Rattle.http_connection.specs.Runs.{Runs}
use Rattle.http_connection.proofs.connection.Connection.run_steps.Given as goal

-- what was done so far, where memory wasn't refused
abbrev pub invariant-loop : goal.invariant-loop
invariant-loop g l = record {
  runs : Runs {S = g.row.S.Denot} {P = g.row.P.Denot} g.S.Service.answers g.P.Pieces.writes
      (max_body_of l.initial.self) l.initial.service (place_of l.initial.self)
      (pending_of l.initial.self) l.service (place_of l.self) (pending_of l.self) false;
  kept : l.self.limits ≡ l.initial.self.limits;
}

abbrev pub decreases-loop : goal.decreases-loop
decreases-loop g l = work l.self
