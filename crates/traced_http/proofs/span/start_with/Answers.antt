use Rattle.traced_http.proofs.Started.{starts-none, starts-span}
use Rattle.traced_http.proofs.span.start_with.Goals as goal

pub returns-clause-started : goal.returns-clause-started
returns-clause-started g c =
    starts-span _ _ _ _ _ _ _ _ c.start_span.result c.start_span.ensures.started
    c.start_span.ensures.spent

pub returns-clause-none : goal.returns-clause-none
returns-clause-none g c =
    starts-none _ _ _ _ _ _ _ _ c.start_span.result c.start_span.ensures.started
    c.start_span.ensures.spent
