use Rattle.std.proofs.Common.{false, refl, sym, ◌∙◌}
use Rattle.http_connection.proofs.RunLemmas.{runs_next, runs_same}
use Rattle.http_connection.proofs.connection.Connection.run_steps.Goals as goal

pub loop-preserved : goal.loop-preserved
loop-preserved g c = record {
  runs =
      runs_same _ _ _ _ _ false refl refl (sym (c.step.ensures.goes_on c.loop-test.true))
      (runs_next _ _ _ _ (λ i. (c.loop.invariant.kept i).max_body) c.loop.invariant.runs refl
      c.step.ensures.runs);
  kept = c.step.ensures.kept ∙ c.loop.invariant.kept;
}

pub returns-clause-runs : goal.returns-clause-runs
returns-clause-runs g c =
    runs_next _ _ _ _ (λ i. (c.loop.invariant.kept i).max_body) c.loop.invariant.runs refl
    c.step.ensures.runs
