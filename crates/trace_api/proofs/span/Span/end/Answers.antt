use Rattle.otlp_ids.specs.SpanContext.{context_view}
use Rattle.trace_api.specs.State.{state_view}
use Rattle.trace_api.proofs.Held.{does-end}
use Rattle.trace_api.proofs.span.Span.end.Goals as goal

pub returns-clause-ended : goal.returns-clause-ended
returns-clause-ended g c =
    rw (c.replace.ensures.after, ← c.self.view_is)
    (does-end c.args.at (context_view c.self.inside.context) (state_view c.self.inside.state))
