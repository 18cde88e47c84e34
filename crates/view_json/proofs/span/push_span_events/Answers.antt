use Rattle.std.proofs.Common.{codes}
use Rattle.std.specs.List.{flat_map}
use Rattle.otlp_json.specs.Seen.{number_member, seen}
use Rattle.view_json.specs.Spans.{event_members, event_seen}
use Rattle.otlp_json.proofs.Chains.{appended, named}
use Rattle.view_json.proofs.span.push_span_events.Goals as goal

pub returns-clause-seen : goal.returns-clause-seen
unfolding event_members
returns-clause-seen g c =
    let s0 = seen c.args.out.now.tokens in
    let s1 = seen c.begin_list.new.out.tokens in
    let s2 = seen c.push_events.new.out.tokens in
    let s3 = seen c.end_list.new.out.tokens in
    appended s0 s3 (seen c.push_number.new.out.tokens) _ _
    (appended s0 s2 s3 _ _
    (appended s0 s1 s2 _ _ c.in_ok-begin_list.ensures.seen
    (named (flat_map event_seen) s1 s2 c.in_ok-push_events.ensures.seen c.deref.ensures.value))
    c.in_ok-end_list.ensures.seen)
    (named (λ l. seen (number_member (codes "droppedEventsCount") l)) s3
    (seen c.push_number.new.out.tokens) c.in_ok-push_number.ensures.seen c.from.ensures)
