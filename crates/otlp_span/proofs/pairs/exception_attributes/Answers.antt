use Rattle.otlp_value.specs.Value.{limits_view}
use Rattle.otlp_span.proofs.Setting.{sets-first, sets-more}
use Rattle.otlp_span.proofs.pairs.exception_attributes.Goals as goal

pub returns : goal.returns
returns g c =
    sets-first (limits_view c.args.limits) _ c.new-list.result c.set_all.new.list c.new-list.ensures
    (sets-more c.in_ok-set_text.ensures
    (sets-more c.in_ok-set_text-2.ensures
    (sets-more c.in_ok-set_text-3.ensures c.in_ok-set_all.ensures)))
