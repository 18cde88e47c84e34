use Rattle.model_body.proofs.Accounts.{memory_is_bounded}
use Rattle.model_body.proofs.laws.memory_is_bounded.Goals as goal

pub returns : goal.returns
returns c = memory_is_bounded
