use Rattle.otlp_json.proofs.Chains.{appended}
use Rattle.relay_service.specs.Stats.{amount_members, stats_tokens}
use Rattle.relay_service.proofs.stats.push_report.Goals as goal

pub returns-clause-tokens : goal.returns-clause-tokens
unfolding stats_tokens amount_members
returns-clause-tokens g c =
    let s0 = c.args.out.now.tokens in
    let s1 = c.begin.new.out.tokens in
    let s2 = c.push_amounts.new.out.tokens in
    let s3 = c.push_amounts-2.new.out.tokens in
    let s4 = c.push_number.new.out.tokens in
    let s5 = c.push_number-2.new.out.tokens in
    let s6 = c.push_number-3.new.out.tokens in
    let s7 = c.push_number-4.new.out.tokens in
    let s8 = c.push_number-5.new.out.tokens in
    appended s0 s8 c.end.new.out.tokens _ _
    (appended s0 s7 s8 _ _
    (appended s0 s6 s7 _ _
    (appended s0 s5 s6 _ _
    (appended s0 s4 s5 _ _
    (appended s0 s3 s4 _ _
    (appended s0 s2 s3 _ _
    (appended s0 s1 s2 _ _ c.in_ok-begin.ensures.tokens c.in_ok-push_amounts.ensures.tokens)
    c.in_ok-push_amounts-2.ensures.tokens)
    c.in_ok-push_number.ensures.tokens)
    c.in_ok-push_number-2.ensures.tokens)
    c.in_ok-push_number-3.ensures.tokens)
    c.in_ok-push_number-4.ensures.tokens)
    c.in_ok-push_number-5.ensures.tokens)
    c.in_ok-end.ensures.tokens
