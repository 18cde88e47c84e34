use Rattle.std.proofs.Common.{◌∙◌, ap, arith, rules}
use Rattle.std.proofs.lemmas.Grind.{common_steps}
use Rattle.http_connection.specs.declared.limits.Limits.{Limits}
use Rattle.http_listener.proofs.Leading.{leads-then}
use Rattle.http_listener.proofs.peer.Peer.turn.Goals as goal

pub returns-in-Some-clause-served : goal.returns-in-Some-clause-served
returns-in-Some-clause-served g c =
    leads-then g.S.Service.answers g.P.Pieces.writes _ _ _ _ _ _ _ _
    (ap (λ (l : Limits). l.max_body) c.loop-done.invariant.limits) c.loop-done.invariant.served
    c.step.ensures.served

pub loop-done-preserved : goal.loop-done-preserved
loop-done-preserved g c = record {
  served =
      leads-then g.S.Service.answers g.P.Pieces.writes _ _ _ _ _ _ _ _
      (ap (λ (l : Limits). l.max_body) c.loop-done.invariant.limits) c.loop-done.invariant.served
      c.step.ensures.served;
  lives = λ _. c.step.ensures.lives (first_of (search rules, grind (arith, common_steps)));
  limits = c.step.ensures.limits ∙ c.loop-done.invariant.limits;
  answered = λ plain _. c.step.ensures.answered plain;
}
