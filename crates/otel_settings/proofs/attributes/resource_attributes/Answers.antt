use Rattle.std.proofs.Common.{ap, ◌∙◌}
use Rattle.model_span.specs.Attributes.{AttributeList}
use Rattle.otel_settings.proofs.attributes.resource_attributes.Goals as goal

pub returns : goal.returns
returns g c =
    c.into_pairs.ensures ∙ ap (λ (list : AttributeList). list.kept.items) c.in_ok-list.ensures
