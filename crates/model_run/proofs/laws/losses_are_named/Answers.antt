use Rattle.model_run.proofs.NamedLosses.{losses-are-named}
use Rattle.model_run.proofs.laws.losses_are_named.Goals as goal

pub returns : goal.returns
returns c = losses-are-named
