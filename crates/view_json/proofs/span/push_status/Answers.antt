use Rattle.std.proofs.Common.{codes, SFits, rules, to_z-of_z, w32}
use Rattle.otlp_json.specs.Seen.{seen, signed_member, text_member}
use Rattle.view_json.specs.Spans.{status_member}
use Rattle.otlp_json.proofs.Chains.{appended, last, named}
use Rattle.view_json.proofs.span.push_status.Goals as goal

pub returns-clause-seen : goal.returns-clause-seen
unfolding status_member
returns-clause-seen g c =
    let s0 = seen c.args.out.now.tokens in
    let s1 = seen c.begin_member.new.out.tokens in
    let s2 = seen c.push_text.new.out.tokens in
    let s3 = seen c.push_signed.new.out.tokens in
    let fits : SFits w32 c.args.status.now.code = search rules in
    last c.end.result s0 s3 (seen c.end.new.out.tokens) _ _
    (appended s0 s2 s3 _ _
    (appended s0 s1 s2 _ _ c.in_ok-begin_member.ensures.seen
    (named (λ l. seen (text_member (codes "message") l)) s1 s2 c.in_ok-push_text.ensures.seen
    c.deref.ensures))
    (named (λ l. seen (signed_member (codes "code") l)) s2 s3 c.in_ok-push_signed.ensures.seen
    (to_z-of_z fits)))
    c.end.ensures.seen
