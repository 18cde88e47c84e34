use Rattle.std.proofs.Common.{◌≡◌, ◌∙◌, sym, ap, inl, true, string_bytes}
use Rattle.model_span.specs.Sampling.{is_recording}
use Rattle.model_span.specs.Starts.{Tracer, StartRequest, decision_of, start_request}
use Rattle.otlp_ids.specs.SpanContext.{parent_view}
use Rattle.otlp_span.specs.Parts.{kind_view}
use Rattle.otlp_sampler.specs.Sampling.{decision_view}
use Rattle.trace_api.specs.Starts.{ids_view, tracer_view}
use Rattle.trace_api.proofs.Drawn.{not-started, has-started, takes-memory, refused}
use Rattle.trace_api.proofs.Held.{held-as-named}
use Rattle.trace_api.proofs.provider.Tracer.start_copied.Goals as goal

pub returns-in_default : goal.returns-in_default
returns-in_default g c = record {
  started = not-started _ _ _ c.in_default.ensures.ids;
  spent = c.in_default.ensures.spent;
}

pub returns-in_err-name : goal.returns-in_err-name
returns-in_err-name g c =
    let tracer : Tracer = tracer_view g.S.Sampler.meaning c.args.self.now in
    let a : StartRequest =
    start_request (parent_view c.args.parent) c.args.name.now (kind_view c.args.kind) c.args.at in
    let d = c.in-Some.ensures.decided in
    let decision : decision_view c.in-Some.decided.decision
    ≡ decision_of tracer a c.in-Some.decided.ids.trace.0 =
    d.decision_is in
    let records : is_recording (decision_of tracer a c.in-Some.decided.ids.trace.0) ≡ true =
    sym (ap is_recording decision) ∙ c.in_err-name.ensures.refused in
    record {
      started =
          refused _ _ _ c.from_residual.ensures.1 (has-started tracer a _ _ c.in-Some.ensures.ids)
          (inl records);
      spent = c.in-Some.ensures.spent;
    }

pub returns-in_err-open : goal.returns-in_err-open
returns-in_err-open g c =
    let tracer : Tracer = tracer_view g.S.Sampler.meaning c.args.self.now in
    let a : StartRequest =
    start_request (parent_view c.args.parent) c.args.name.now (kind_view c.args.kind) c.args.at in
    let d = c.in-Some.ensures.decided in
    let decision : decision_view c.in-Some.decided.decision
    ≡ decision_of tracer a c.in-Some.decided.ids.trace.0 =
    d.decision_is in
    record {
      started =
          refused _ _ _ c.from_residual-in_err-open.ensures.1
          (has-started tracer a _ _ c.in-Some.ensures.ids)
          (takes-memory tracer (ids_view c.in-Some.decided.ids)
          (ap (λ p. record a { parent = p }) d.parent_is) decision c.in_err-open.ensures);
      spent = c.in-Some.ensures.spent;
    }

pub returns : goal.returns
returns g c =
    let tracer : Tracer = tracer_view g.S.Sampler.meaning c.args.self.now in
    let a : StartRequest =
    start_request (parent_view c.args.parent) c.args.name.now (kind_view c.args.kind) c.args.at in
    let d = c.in-Some.ensures.decided in
    let decision : decision_view c.in-Some.decided.decision
    ≡ decision_of tracer a c.in-Some.decided.ids.trace.0 =
    d.decision_is in
    let kept =
    held-as-named tracer a.parent
    (string_bytes c.in_ok-name.name) c.args.name.now a.kind c.args.at
    (ids_view c.in-Some.decided.ids) (decision_of tracer a c.in-Some.decided.ids.trace.0)
    (λ e. c.in_ok-name.ensures.recorded (ap is_recording decision ∙ e)) in
    record {
      started = (
        _,
        has-started tracer a _ _ c.in-Some.ensures.ids,
        c.in_ok-open.ensures ∙ rw (d.parent_is, decision) kept,
      );
      spent = c.in-Some.ensures.spent;
    }
