use Rattle.view_json.specs.Lists.{count_members}
use Rattle.otlp_json.proofs.Chains.{appended}
use Rattle.view_json.proofs.list.push_counts.Goals as goal

pub returns-clause-tokens : goal.returns-clause-tokens
unfolding count_members
returns-clause-tokens g c =
    let s0 = c.args.out.now.tokens in
    let s1 = c.push_long.new.out.tokens in
    let s2 = c.push_long-2.new.out.tokens in
    let s3 = c.push_number.new.out.tokens in
    appended s0 s3 c.push_number-2.new.out.tokens _ _
    (appended s0 s2 s3 _ _
    (appended s0 s1 s2 _ _ c.in_ok-push_long.ensures.tokens c.in_ok-push_long-2.ensures.tokens)
    c.in_ok-push_number.ensures.tokens)
    c.in_ok-push_number-2.ensures.tokens
