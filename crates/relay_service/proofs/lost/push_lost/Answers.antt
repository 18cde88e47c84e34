use Rattle.std.specs.Prelude.{codes}
use Rattle.otlp_json.specs.Seen.{hex_member, text_member}
use Rattle.otlp_json.proofs.Chains.{appended, named}
use Rattle.relay_service.specs.Lost.{lost_tokens}
use Rattle.relay_service.proofs.lost.push_lost.Goals as goal

pub returns-clause-tokens : goal.returns-clause-tokens
unfolding lost_tokens
returns-clause-tokens g c =
    let s0 = c.args.out.now.tokens in
    let s1 = c.begin.new.out.tokens in
    let s2 = c.push_hex.new.out.tokens in
    let s3 = c.push_hex-2.new.out.tokens in
    let s4 = c.push_text.new.out.tokens in
    let s5 = c.push_status.new.out.tokens in
    let trace =
    named (hex_member (codes "traceId")) s1 s2 c.in_ok-push_hex.ensures.tokens
    c.as_slice.ensures.value in
    let span =
    named (hex_member (codes "spanId")) s2 s3 c.in_ok-push_hex-2.ensures.tokens
    c.as_slice-2.ensures.value in
    let reason =
    named (text_member (codes "reason")) s3 s4 c.in_ok-push_text.ensures.tokens
    c.reason_of.ensures in
    appended s0 s5 c.end.new.out.tokens _ _
    (appended s0 s4 s5 _ _
    (appended s0 s3 s4 _ _
    (appended s0 s2 s3 _ _
    (appended s0 s1 s2 _ _ c.in_ok-begin.ensures.tokens trace) span) reason)
    c.in_ok-push_status.ensures.tokens)
    c.in_ok-end.ensures.tokens
