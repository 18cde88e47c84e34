use Rattle.std.proofs.Common.{rules}
use Rattle.otlp_json.proofs.Pieces.{too_short}
use Rattle.otlp_json.proofs.mend.unit_in.Goals as goal

pub returns-then-text-lt6-clause-value : goal.returns-then-text-lt6-clause-value
returns-then-text-lt6-clause-value c = too_short c.args.text.now (search rules)
