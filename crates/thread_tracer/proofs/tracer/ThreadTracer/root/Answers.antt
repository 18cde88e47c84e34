use Rattle.thread_tracer.proofs.Roots.{as-root}
use Rattle.thread_tracer.proofs.tracer.ThreadTracer.root.Goals as goal

pub returns-clause-started : goal.returns-clause-started
returns-clause-started g c =
    as-root _ _ _ _ _ _ _ _ (rw (← c.invalid-none.ensures) c.start_in.ensures.started)
