use Rattle.std.proofs.Common.{ap, inl, inr, subst, sym}
use Rattle.std.specs.Prelude.{IsSome}
use Rattle.http.specs.Request.{head_of}
use Rattle.http_connection.specs.Connections.{aborted_at, place_at}
use Rattle.http_connection.specs.Outputs.{waiting}
use Rattle.http_connection.specs.Stages.{whole_at}
use Rattle.http_connection.proofs.RunLemmas.{runs_same}
use Rattle.http_connection.proofs.connection.Connection.go_on.Goals as goal

pub returns-clause-runs : goal.returns-clause-runs
returns-clause-runs g c =
    let rest = c.rest.ensures in
    runs_same _ _ _ _ _ _
    (λ i. place_at (rest.stage i) (head_of (rest.request i)) (rest.body i).items)
    (ap waiting rest.output) (λ i. aborted_at (rest.stage i)) c.run.ensures.runs

pub returns-clause-stops : goal.returns-clause-stops
returns-clause-stops g c =
    elim c.run.ensures.stops [
      | inl x ↦ inl (c.rest.ensures.rests x)
      | inr x ↦ inr (x.0, subst (λ s. IsSome (whole_at s)) (sym c.rest.ensures.stage) x.1)
    ]
