use Rattle.std.proofs.Common.{◌≡◌, [], ◌∷◌, map, refl, subst}
use Rattle.model_run.specs.Answers.{AreAnswers}
use Rattle.worked_sdk.specs.Worked.{queue_of}
use Rattle.worked_sdk.specs.Retried.{busy, retried, retried_history}
use Rattle.worked_sdk.proofs.Histories.{history-after-right}
use Rattle.worked_sdk.proofs.retried.answers.Goals as goal

same : retried_history ≡ retried
unfolding retried_history
same = refl

right : AreAnswers (queue_of 4) retried_history
unfolding retried_history AreAnswers
right = history-after-right (queue_of 4) [] [] (busy ∷ []) (map (λ x. x.step) retried) tt

pub returns : goal.returns
returns c = record { are = same; right = subst (AreAnswers (queue_of 4)) same right }
