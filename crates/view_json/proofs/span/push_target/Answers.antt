use Rattle.std.proofs.Common.{codes}
use Rattle.otlp_json.specs.Seen.{hex_member, seen, text_member}
use Rattle.view_json.specs.Spans.{target_members}
use Rattle.otlp_json.proofs.Chains.{appended, named}
use Rattle.view_json.proofs.span.push_target.Goals as goal

pub returns-clause-seen : goal.returns-clause-seen
unfolding target_members
returns-clause-seen g c =
    let s0 = seen c.args.out.now.tokens in
    let s1 = seen c.push_hex.new.out.tokens in
    let s2 = seen c.push_hex-2.new.out.tokens in
    let s3 = seen c.push_text.new.out.tokens in
    appended s0 s2 s3 _ _
    (appended s0 s1 s2 _ _
    (named (λ l. seen (hex_member (codes "traceId") l)) s0 s1 c.in_ok-push_hex.ensures.seen
    c.deref.ensures.value)
    (named (λ l. seen (hex_member (codes "spanId") l)) s1 s2 c.in_ok-push_hex-2.ensures.seen
    c.deref-2.ensures.value))
    (named (λ l. seen (text_member (codes "traceState") l)) s2 s3 c.in_ok-push_text.ensures.seen
    c.deref-3.ensures)
