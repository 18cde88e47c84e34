use Rattle.std.proofs.Common.{◌≡◌, sym, ap, ◌∙◌, refl, string_bytes}
use Rattle.model_span.specs.Attributes.{Attribute, Kept, attributes}
use Rattle.model_span.specs.Spans.{Event, add_event, event, event_limits}
use Rattle.otlp_value.specs.Value.{attributes_view}
use Rattle.otlp_span.specs.declared.body.SpanBody.{SpanBody}
use Rattle.otlp_span.specs.Body.{recording_view}
use Rattle.otlp_span.specs.Parts.{event_view, limits_view}
use Rattle.otlp_span.proofs.Recorded.{counts-event, event-room-is, keeps-event, keeps-one-event}
use Rattle.otlp_span.proofs.Recorded.{kept-is, on-err, on-err-then, on-ok, same-events}
use Rattle.otlp_span.proofs.record.SpanRecord.add_event.Goals as goal

pub returns-then-not-has_room-clause-ok : goal.returns-then-not-has_room-clause-ok
returns-then-not-has_room-clause-ok g c =
    let b = c.deref_mut.result.now in
    let name = string_bytes c.args.name in
    let pairs = attributes_view c.args.attributes.items in
    counts-event b c.args.self.now (add_event name c.args.timestamp pairs) c.count.new.self
    (event (limits_view b.limits) name c.args.timestamp pairs)
    (ap recording_view c.deref_mut.ensures.value ∙ c.self.view_is) tt refl
    (event-room-is c.deref.ensures c.deref-2.ensures c.deref_mut.ensures.value c.has_room.ensures
    c.if-not-has_room.true)
    c.count.ensures

pub returns-clause-ok : goal.returns-clause-ok
returns-clause-ok g c =
    let b = c.deref_mut-2.result.now in
    let name = string_bytes c.args.name in
    let pairs = attributes_view c.args.attributes.items in
    let kept : c.in_ok-attributes.attributes.kept
    ≡ attributes (event_limits (limits_view b.limits)) pairs =
    kept-is pairs (event_limits (limits_view b.limits)) c.in_ok-attributes.ensures
    (c.of_event-limits.ensures
    ∙ ap (λ (b : SpanBody _). event_limits (limits_view b.limits))
    (c.deref-3.ensures ∙ sym c.deref_mut-2.ensures.value)) in
    let made : Kept Attribute → Event =
    λ k. record { at = c.args.timestamp; name = name; attributes = k } in
    let same : event_view c.new.result ≡ event (limits_view b.limits) name c.args.timestamp pairs =
    c.new.ensures ∙ ap made kept in
    on-ok c.push.result
    (keeps-event b c.args.self.now
    (add_event name c.args.timestamp pairs) c.new.result c.push.new.self
    (event (limits_view b.limits) name c.args.timestamp pairs)
    (ap recording_view c.deref_mut-2.ensures.value ∙ c.self.view_is) tt refl
    (event-room-is c.deref.ensures c.deref-2.ensures c.deref_mut-2.ensures.value c.has_room.ensures
    c.if-not-has_room.false)
    same)
    c.push.ensures.ok

pub returns-clause-err : goal.returns-clause-err
returns-clause-err g c =
    on-err-then c.push.result
    (same-events c.deref_mut-2.result.now c.args.self.now c.push.new.self
    (ap recording_view c.deref_mut-2.ensures.value ∙ c.self.view_is))
    c.push.ensures.err

pub returns-clause-refused_only_where_kept : goal.returns-clause-refused_only_where_kept
returns-clause-refused_only_where_kept g c = on-err c.push.result
    (keeps-one-event c.deref_mut-2.result.now c.args.self.now
    (event-room-is c.deref.ensures c.deref-2.ensures c.deref_mut-2.ensures.value c.has_room.ensures
    c.if-not-has_room.false)
    (ap recording_view c.deref_mut-2.ensures.value ∙ c.self.view_is))
