use Rattle.view_json.specs.Lists.{trace_counts}
use Rattle.otlp_json.proofs.Chains.{appended}
use Rattle.view_json.proofs.list.push_trace_counts.Goals as goal

pub returns-clause-tokens : goal.returns-clause-tokens
unfolding trace_counts
returns-clause-tokens g c =
    appended c.args.out.now.tokens c.push_number.new.out.tokens c.push_number-2.new.out.tokens _ _
    c.in_ok-push_number.ensures.tokens c.in_ok-push_number-2.ensures.tokens
