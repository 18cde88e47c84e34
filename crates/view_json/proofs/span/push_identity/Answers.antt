use Rattle.std.proofs.Common.{codes}
use Rattle.otlp_json.specs.Seen.{hex_member, number_member, seen, text_member}
use Rattle.view_json.specs.Spans.{identity_members}
use Rattle.otlp_json.proofs.Chains.{appended, named}
use Rattle.view_json.proofs.span.push_identity.Goals as goal

pub returns-clause-seen : goal.returns-clause-seen
unfolding identity_members
returns-clause-seen g c =
    let s0 = seen c.args.out.now.tokens in
    let s1 = seen c.push_hex.new.out.tokens in
    let s2 = seen c.push_hex-2.new.out.tokens in
    let s3 = seen c.push_text.new.out.tokens in
    let s4 = seen c.push_hex-3.new.out.tokens in
    let s5 = seen c.push_number.new.out.tokens in
    appended s0 s4 s5 _ _
    (appended s0 s3 s4 _ _
    (appended s0 s2 s3 _ _
    (appended s0 s1 s2 _ _
    (named (λ l. seen (hex_member (codes "traceId") l)) s0 s1 c.in_ok-push_hex.ensures.seen
    c.deref.ensures.value)
    (named (λ l. seen (hex_member (codes "spanId") l)) s1 s2 c.in_ok-push_hex-2.ensures.seen
    c.deref-2.ensures.value))
    (named (λ l. seen (text_member (codes "traceState") l)) s2 s3 c.in_ok-push_text.ensures.seen
    c.deref-3.ensures))
    (named (λ l. seen (hex_member (codes "parentSpanId") l)) s3 s4 c.in_ok-push_hex-3.ensures.seen
    c.deref-4.ensures.value))
    (named (λ l. seen (number_member (codes "flags") l)) s4 s5 c.in_ok-push_number.ensures.seen
    c.from.ensures)
