use Rattle.otlp_value.proofs.Cutting.{uncut}
use Rattle.otlp_value.specs.Value.{value_view}
use Rattle.otlp_value.proofs.Value.cut.Goals as goal

pub returns-in_default : goal.returns-in_default
returns-in_default g c = rw c.in_default.is (uncut (value_view c.args.self))
