use Rattle.std.proofs.Common.{◌≡◌, [], ◌∷◌, sym, ◌∙◌}
use Rattle.otlp_ids.specs.SpanContext.{context_view}
use Rattle.trace_context.specs.Tracestate.{tracestate}
use Rattle.trace_context.proofs.Added.{added, takes_memory}
use Rattle.trace_context.proofs.carrier.inject.Goals as goal

pub returns-clause-added : goal.returns-clause-added
returns-clause-added g c =
    let view = context_view c.args.context.now in
    let state : c.as_bytes.result.now ≡ tracestate (view.state ∷ []) =
    c.as_bytes.ensures.value ∙ c.in_ok-state.ensures.read in
    added view _ _ _ _ _
    (sym c.is_valid.ensures ∙ c.if-not-is_valid.false) c.write_traceparent.ensures state
    c.in_ok-set.ensures.added c.in_ok-set_state.ensures.added

pub returns-in_err-set_state-clause-memory : goal.returns-in_err-set_state-clause-memory
returns-in_err-set_state-clause-memory g c =
    let view = context_view c.args.context.now in
    let state : c.as_bytes.result.now ≡ tracestate (view.state ∷ []) =
    c.as_bytes.ensures.value ∙ c.in_ok-state.ensures.read in
    takes_memory c.from_residual-in_err-set_state.result
    (g.C.Injector.refuses c.args.carrier.now) view _
    (sym c.is_valid.ensures ∙ c.if-not-is_valid.false) state
    c.in_err-set_state.ensures.memory
