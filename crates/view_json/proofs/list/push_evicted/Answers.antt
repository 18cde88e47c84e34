use Rattle.view_json.specs.Lists.{evicted_member}
use Rattle.otlp_json.proofs.Chains.{appended}
use Rattle.view_json.proofs.list.push_evicted.Goals as goal

pub returns-clause-tokens : goal.returns-clause-tokens
unfolding evicted_member
returns-clause-tokens g c =
    let s0 = c.args.out.now.tokens in
    let s1 = c.begin_list.new.out.tokens in
    let s2 = c.push_traces.new.out.tokens in
    appended s0 s1 c.end_list.new.out.tokens _ _ c.in_ok-begin_list.ensures.tokens
    (appended s1 s2 c.end_list.new.out.tokens _ _ c.in_ok-push_traces.ensures.tokens
    c.in_ok-end_list.ensures.tokens)
