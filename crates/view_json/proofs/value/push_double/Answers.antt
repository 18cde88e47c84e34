use Rattle.otlp_json.specs.Seen.{seen}
use Rattle.otlp_json.proofs.Chains.{last}
use Rattle.view_json.proofs.value.push_double.Goals as goal

pub returns-clause-seen : goal.returns-clause-seen
returns-clause-seen g c =
    last c.push_float.result (seen c.args.out.now.tokens) (seen c.push_key.new.out.tokens)
    (seen c.push_float.new.out.tokens) _ _ c.in_ok-push_key.ensures.seen c.push_float.ensures.seen
