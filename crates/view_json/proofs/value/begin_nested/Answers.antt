use Rattle.otlp_json.specs.Seen.{seen}
use Rattle.otlp_json.proofs.Chains.{last}
use Rattle.view_json.proofs.value.begin_nested.Goals as goal

pub returns-clause-seen : goal.returns-clause-seen
returns-clause-seen g c =
    last c.begin_list.result (seen c.args.out.now.tokens) (seen c.begin_member.new.out.tokens)
    (seen c.begin_list.new.out.tokens) _ _ c.in_ok-begin_member.ensures.seen
    c.begin_list.ensures.seen
