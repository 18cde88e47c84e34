use Rattle.std.proofs.Common.{ap, ◌∙◌, map}
use Rattle.otlp_value.specs.Value.{attribute_view, limits_view}
use Rattle.otlp_value.proofs.Setting.{attributes-nil, listed}
use Rattle.otlp_value.proofs.AttributeList.new.Goals as goal

pub returns : goal.returns
returns g c =
    ap
    (λ pairs. listed (limits_view c.args.limits) 0 (map attribute_view pairs)) c.new.ensures.items
    ∙ ap (λ kept. record { limits = limits_view c.args.limits; kept = kept }) (attributes-nil _)
