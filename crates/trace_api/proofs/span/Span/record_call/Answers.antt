use Rattle.otlp_ids.specs.SpanContext.{context_view}
use Rattle.trace_api.proofs.Read.{on-ok}
use Rattle.trace_api.proofs.Held.{does-recorded, does-nothing, not-recorded}
use Rattle.trace_api.proofs.span.Span.record_call.Goals as goal

pub returns-in_default : goal.returns-in_default
returns-in_default g c = record {
  ok =
      rw (← c.self.view_is)
      (does-nothing _ (context_view c.self.inside.context) _ c.requires
      (not-recorded c.self.inside.state c.in_default.not-Recording));
  ignored = λ e. c.self.view_is;
  err = tt;
  refused_only_where_kept = tt;
}

pub returns-clause-ok : goal.returns-clause-ok
returns-clause-ok g c =
    rw (← c.self.view_is, c.in-Recording.is)
    (on-ok c.call.result
    (λ a. does-recorded _ (context_view c.self.inside.context) _ _ c.requires a) c.call.ensures.ok)
