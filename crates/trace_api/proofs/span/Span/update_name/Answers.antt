use Rattle.std.proofs.Common.{refl}
use Rattle.otlp_ids.specs.SpanContext.{context_view}
use Rattle.trace_api.proofs.Held.{does-recorded, does-nothing, not-recorded}
use Rattle.trace_api.proofs.span.Span.update_name.Goals as goal

pub returns-in_default : goal.returns-in_default
returns-in_default g c = record {
  called =
      rw (← c.self.view_is)
      (does-nothing _ (context_view c.self.inside.context) _ refl
      (not-recorded c.self.inside.state c.in_default.not-Recording));
  ignored = λ e. c.self.view_is;
}

pub returns-clause-called : goal.returns-clause-called
returns-clause-called g c =
    rw (← c.self.view_is, c.in-Recording.is)
    (does-recorded _ (context_view c.self.inside.context) _ _ refl c.update_name.ensures)
