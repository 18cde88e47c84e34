use Rattle.model_run.proofs.Attempts.{attempts-are-numbered, attempts-are-in-order}
use Rattle.model_run.proofs.Attempts.{attempts-are-few, attempts-are-five, no-attempt-is-early}
use Rattle.model_run.proofs.Attempts.{replies-are-decided}
use Rattle.model_run.proofs.laws.attempts_are_answered.Goals as goal

pub returns : goal.returns
returns c = record {
  numbered = attempts-are-numbered;
  in_order = attempts-are-in-order;
  few = attempts-are-few;
  five = attempts-are-five;
  early = no-attempt-is-early;
  decided = replies-are-decided;
}
