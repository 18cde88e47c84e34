use Rattle.trace_api.proofs.Drawn.{none-spent}
use Rattle.trace_api.proofs.provider.draw_trace.Goals as goal

pub returns-in-Some-clause-spent : goal.returns-in-Some-clause-spent
returns-in-Some-clause-spent g c = rw c.in-Some.is (none-spent (g.R.Rng.stream c.args.rng.now))
