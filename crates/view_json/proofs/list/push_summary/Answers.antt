use Rattle.view_json.specs.Lists.{summary_tokens}
use Rattle.otlp_json.proofs.Chains.{appended}
use Rattle.view_json.proofs.list.push_summary.Goals as goal

pub returns-clause-tokens : goal.returns-clause-tokens
unfolding summary_tokens
returns-clause-tokens g c =
    let s0 = c.args.out.now.tokens in
    let s1 = c.begin.new.out.tokens in
    let s2 = c.push_names.new.out.tokens in
    let s3 = c.push_counts.new.out.tokens in
    appended s0 s3 c.end.new.out.tokens _ _
    (appended s0 s2 s3 _ _
    (appended s0 s1 s2 _ _ c.in_ok-begin.ensures.tokens c.in_ok-push_names.ensures.tokens)
    c.in_ok-push_counts.ensures.tokens)
    c.in_ok-end.ensures.tokens
