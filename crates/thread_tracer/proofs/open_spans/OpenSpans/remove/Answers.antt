use Rattle.std.proofs.Common.{ap}
use Rattle.otlp_ids.specs.SpanContext.{context_view}
use Rattle.thread_tracer.proofs.Places.{removed, stays}
use Rattle.thread_tracer.proofs.open_spans.OpenSpans.remove.Goals as goal

pub returns-in-Some : goal.returns-in-Some
returns-in-Some g c =
    removed context_view
    (context_view c.args.span.now) c.self.inside.contexts.items _ c.args.self.now.contexts
    c.in-Some.place c.place_in.result
    (ap (λ s. s.contexts) c.self.view_is) c.place_in.ensures.value c.in-Some.is c.take_out.ensures

pub returns-in-None : goal.returns-in-None
returns-in-None g c =
    stays context_view
    (context_view c.args.span.now) c.self.inside.contexts.items c.args.self.now.contexts
    c.place_in.result
    (ap (λ s. s.contexts) c.self.view_is) c.place_in.ensures.value c.in-None.is
