use Rattle.std.proofs.Common.{codes}
use Rattle.otlp_json.specs.Seen.{number_member, seen}
use Rattle.view_json.specs.Spans.{attribute_members}
use Rattle.view_json.specs.Values.{attributes_member}
use Rattle.otlp_json.proofs.Chains.{appended, named}
use Rattle.view_json.proofs.span.push_span_attributes.Goals as goal

pub returns-clause-seen : goal.returns-clause-seen
unfolding attribute_members
returns-clause-seen g c =
    let s0 = seen c.args.out.now.tokens in
    let s1 = seen c.push_attributes.new.out.tokens in
    let s2 = seen c.push_number.new.out.tokens in
    appended s0 s1 s2 _ _
    (named attributes_member s0 s1 c.in_ok-push_attributes.ensures.seen c.deref.ensures.value)
    (named (λ l. seen (number_member (codes "droppedAttributesCount") l)) s1 s2
    c.in_ok-push_number.ensures.seen c.from-dropped.ensures)
