use Rattle.std.proofs.Common.{◌≡◌, sym, ap, ◌∙◌, []}
use Rattle.std.specs.Arc.{arc_value}
use Rattle.model_span.specs.Attributes.{attribute_list}
use Rattle.model_span.specs.Spans.{SpanRecord, Span, attribute_limits}
use Rattle.otlp_span.specs.Parts.{limits_view, resource_view, scope_view, start_view}
use Rattle.otlp_span.proofs.Recorded.{span-none}
use Rattle.otlp_span.proofs.record.SpanRecord.open.Goals as goal

pub returns : goal.returns
returns g c =
    let limits = limits_view c.args.limits.now in
    let list : c.new.result ≡ attribute_list (attribute_limits limits) [] =
    c.new.ensures ∙ ap (λ l. attribute_list l []) c.of_span.ensures in
    let made : Span → SpanRecord =
    λ s. record {
      limits = limits;
      resource = resource_view (arc_value c.args.opening.resource);
      scope = scope_view (arc_value c.args.opening.scope);
      span = s;
    } in
    rw (c.in_ok-body.ensures.ok, list, c.new-2.ensures, c.new-3.ensures)
    (ap made (sym (span-none limits (start_view c.args.opening))))
