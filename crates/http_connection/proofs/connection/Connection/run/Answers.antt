use Rattle.std.proofs.Common.{◌∙◌}
use Rattle.http_connection.proofs.RunLemmas.{runs_beside, runs_next}
use Rattle.http_connection.proofs.connection.Connection.run.Goals as goal

pub returns-then-not-write_piece-clause-runs : goal.returns-then-not-write_piece-clause-runs
returns-then-not-write_piece-clause-runs g c =
    runs_next _ _ _ _ (λ i. (c.run_steps.ensures.kept i).max_body) c.run_steps.ensures.runs
    (c.wants_piece.ensures.lives c.if-not-wants_piece.false)
    (runs_beside _ _ _ _ c.write_piece.ensures.writes)

pub returns-clause-runs : goal.returns-clause-runs
returns-clause-runs g c =
    let first =
    runs_next _ _ _ _ (λ i. (c.run_steps.ensures.kept i).max_body) c.run_steps.ensures.runs
    (c.wants_piece.ensures.lives c.if-not-wants_piece.false)
    (runs_beside _ _ _ _ c.write_piece.ensures.writes) in
    runs_next _ _ _ _
    (λ i. ((c.write_piece.ensures.kept ∙ c.run_steps.ensures.kept) i).max_body) first
    (c.write_piece.ensures.goes_on c.if-not-write_piece.false) c.run_steps-2.ensures.runs
