use Rattle.model_run.proofs.Ends.{ended-stay, ended-are-few}
use Rattle.model_run.proofs.Values.{ended-by-the-steps}
use Rattle.model_run.proofs.laws.ended_spans_stay.Goals as goal

pub returns : goal.returns
returns c = record { stay = ended-stay; few = ended-are-few; steps = ended-by-the-steps }
