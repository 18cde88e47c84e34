use Rattle.std.proofs.Common.{codes}
use Rattle.otlp_json.specs.Seen.{number_member, seen}
use Rattle.view_json.specs.Spans.{link_seen}
use Rattle.view_json.specs.Values.{attributes_member}
use Rattle.otlp_json.proofs.Chains.{appended, last, named}
use Rattle.view_json.proofs.span.push_link.Goals as goal

pub returns-clause-seen : goal.returns-clause-seen
unfolding link_seen
returns-clause-seen g c =
    let s0 = seen c.args.out.now.tokens in
    let s1 = seen c.begin.new.out.tokens in
    let s2 = seen c.push_target.new.out.tokens in
    let s3 = seen c.push_attributes.new.out.tokens in
    let s4 = seen c.push_number.new.out.tokens in
    let s5 = seen c.push_number-2.new.out.tokens in
    last c.end.result s0 s5 (seen c.end.new.out.tokens) _ _
    (appended s0 s4 s5 _ _
    (appended s0 s3 s4 _ _
    (appended s0 s2 s3 _ _
    (appended s0 s1 s2 _ _ c.in_ok-begin.ensures.seen
    c.in_ok-push_target.ensures.seen)
    (named attributes_member s2 s3 c.in_ok-push_attributes.ensures.seen c.deref.ensures.value))
    (named (λ l. seen (number_member (codes "droppedAttributesCount") l)) s3 s4
    c.in_ok-push_number.ensures.seen c.from-dropped.ensures))
    (named (λ l. seen (number_member (codes "flags") l)) s4 s5 c.in_ok-push_number-2.ensures.seen
    c.from.ensures))
    c.end.ensures.seen
