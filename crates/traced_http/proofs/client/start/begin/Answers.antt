use Rattle.std.proofs.Common.{refl, Some, inr}
use Rattle.traced_http.proofs.client.start.begin.Goals as goal

pub returns-in-Ok-clause-started : goal.returns-in-Ok-clause-started
returns-in-Ok-clause-started g c = (Some c.in-Ok.span, c.in-Ok.ensures.started, inr refl)
