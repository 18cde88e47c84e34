use Rattle.std.proofs.Common.{codes}
use Rattle.otlp_json.specs.Seen.{seen, text_member}
use Rattle.view_json.specs.Spans.{resource_spans_seen}
use Rattle.otlp_json.proofs.Chains.{appended, last, named}
use Rattle.view_json.proofs.trace.push_resource_spans.Goals as goal

pub returns-clause-seen : goal.returns-clause-seen
unfolding resource_spans_seen
returns-clause-seen g c =
    let s0 = seen c.args.out.now.tokens in
    let s1 = seen c.begin.new.out.tokens in
    let s2 = seen c.push_resource.new.out.tokens in
    let s3 = seen c.begin_list.new.out.tokens in
    let s4 = seen c.push_scope_spans.new.out.tokens in
    let s5 = seen c.end_list.new.out.tokens in
    let s6 = seen c.push_text.new.out.tokens in
    last c.end.result s0 s6 (seen c.end.new.out.tokens) _ _
    (appended s0 s5 s6 _ _
    (appended s0 s2 s5 _ _
    (appended s0 s1 s2 _ _ c.in_ok-begin.ensures.seen c.in_ok-push_resource.ensures.seen)
    (appended s2 s4 s5 _ _
    (appended s2 s3 s4 _ _ c.in_ok-begin_list.ensures.seen c.in_ok-push_scope_spans.ensures.seen)
    c.in_ok-end_list.ensures.seen))
    (named (λ l. seen (text_member (codes "schemaUrl") l)) s5 s6 c.in_ok-push_text.ensures.seen
    c.deref.ensures))
    c.end.ensures.seen
