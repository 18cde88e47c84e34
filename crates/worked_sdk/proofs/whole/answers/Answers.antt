use Rattle.std.proofs.Common.{◌≡◌, refl, subst}
use Rattle.model_run.specs.Answers.{AreAnswers}
use Rattle.worked_sdk.specs.Worked.{queue_of, history, worked, worked_steps}
use Rattle.worked_sdk.proofs.Histories.{history-right}
use Rattle.worked_sdk.proofs.whole.answers.Goals as goal

same : history (queue_of 2) worked_steps ≡ worked
unfolding history
same = refl

pub returns : goal.returns
returns c = record {
  are = same;
  right = subst (AreAnswers (queue_of 2)) same (history-right (queue_of 2) worked_steps);
}
