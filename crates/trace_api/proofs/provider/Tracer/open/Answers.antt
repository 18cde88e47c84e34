use Rattle.std.proofs.Common.{◌≡◌, ◌∙◌, refl, sym, ap, true, false, string_bytes}
use Rattle.std.specs.Arc.{arc_value}
use Rattle.model_span.specs.Spans.{Start}
use Rattle.model_span.specs.Sampling.{is_recording}
use Rattle.otlp_ids.specs.SpanContext.{context_view}
use Rattle.model_span.specs.Starts.{StartedSpan}
use Rattle.otlp_sampler.specs.Sampling.{decision_view}
use Rattle.otlp_span.specs.Parts.{kept_parent_view, kind_view, limits_view, resource_view}
use Rattle.otlp_span.specs.Parts.{scope_view}
use Rattle.trace_api.specs.Starts.{opened_span, tracer_view}
use Rattle.trace_api.proofs.Held.{held-dropped, held-recorded, recorded-is}
use Rattle.trace_api.proofs.provider.Tracer.open.Goals as goal

pub returns-then-not-is_recording : goal.returns-then-not-is_recording
returns-then-not-is_recording g c =
    let s : StartedSpan =
    opened_span (tracer_view g.S.Sampler.meaning c.args.self.now) c.args.decided
    (string_bytes c.args.name) (kind_view c.args.kind) c.args.at in
    let e : is_recording (decision_view c.args.decided.decision) ≡ false =
    sym c.is_recording.ensures ∙ c.if-not-is_recording.true in
    c.not_recording.ensures
    ∙ rw (c.child_flags.ensures, c.is_sampled.ensures, c.in_ok-child_state.ensures.value)
    (held-dropped s e)

pub returns : goal.returns
returns g c =
    let s : StartedSpan =
    opened_span (tracer_view g.S.Sampler.meaning c.args.self.now) c.args.decided
    (string_bytes c.args.name) (kind_view c.args.kind) c.args.at in
    let e : is_recording (decision_view c.args.decided.decision) ≡ true =
    sym c.is_recording.ensures ∙ c.if-not-is_recording.false in
    let limits : limits_view c.provider.inside.limits ≡ s.limits =
    ap (λ t. t.limits) c.provider.view_is ∙ ap (λ t. t.provider.limits) c.self.view_is in
    let resource =
    ap resource_view c.in_ok-try_clone.ensures ∙ ap (λ t. t.resource) c.provider.view_is
    ∙ ap (λ t. t.provider.resource) c.self.view_is in
    let scope = ap scope_view c.in_ok-try_clone-2.ensures ∙ ap (λ t. t.scope) c.self.view_is in
    let begin : Start = record {
      context = context_view c.in_ok-copy.field-0;
      parent = kept_parent_view c.kept_parent-parent.result.0 c.kept_parent-parent.result.1;
      name = string_bytes c.args.name;
      kind = kind_view c.args.kind;
      at = c.args.at;
    } in
    let started : begin ≡ s.start =
    rw (
      c.in_ok-copy.ensures.value,
      c.child_flags.ensures,
      c.is_sampled.ensures,
      c.in_ok-child_state.ensures.value,
      c.kept_parent-parent.ensures,
    ) refl in
    let opened =
    c.in_ok-record.ensures
    ∙ recorded-is (limits_view c.provider.inside.limits)
    (resource_view (arc_value c.in_ok-try_clone.field-0))
    (scope_view (arc_value c.in_ok-try_clone-2.field-0)) begin s limits resource scope started in
    c.recording.ensures
    ∙ rw (c.child_flags.ensures, c.is_sampled.ensures, c.in_ok-child_state.ensures.value, opened)
    (held-recorded s e)
