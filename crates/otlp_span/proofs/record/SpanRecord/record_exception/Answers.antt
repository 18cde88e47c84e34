use Rattle.std.proofs.Common.{◌≡◌, sym, ap, ap₂, ◌∙◌, refl, ℕ, List, string_bytes, codes}
use Rattle.model_span.specs.Attributes.{Attribute, Kept, attributes}
use Rattle.model_span.specs.Spans.{Event, record_exception, event, event_limits, exception_pairs}
use Rattle.otlp_value.specs.Value.{attributes_view}
use Rattle.otlp_span.specs.declared.body.SpanBody.{SpanBody}
use Rattle.otlp_span.specs.Body.{recording_view}
use Rattle.otlp_span.specs.Parts.{event_view, limits_view}
use Rattle.otlp_span.proofs.Recorded.{counts-event, event-room-is, keeps-event, keeps-one-event}
use Rattle.otlp_span.proofs.Recorded.{kept-is, on-err, on-err-then, on-ok, same-events}
use Rattle.otlp_span.proofs.record.SpanRecord.record_exception.Goals as goal

pub returns-then-not-has_room-clause-ok : goal.returns-then-not-has_room-clause-ok
returns-then-not-has_room-clause-ok g c =
    let b = c.deref_mut.result.now in
    let kind = string_bytes c.args.exception_type in
    let message = string_bytes c.args.message in
    let stack = string_bytes c.args.stacktrace in
    let pairs = attributes_view c.args.attributes.items in
    let all = exception_pairs kind message stack pairs in
    counts-event b c.args.self.now
    (record_exception kind message stack c.args.timestamp pairs) c.count.new.self
    (event (limits_view b.limits) (codes "exception") c.args.timestamp all)
    (ap recording_view c.deref_mut.ensures.value ∙ c.self.view_is) tt refl
    (event-room-is c.deref.ensures c.deref-2.ensures c.deref_mut.ensures.value c.has_room.ensures
    c.if-not-has_room.true)
    c.count.ensures

pub returns-clause-ok : goal.returns-clause-ok
returns-clause-ok g c =
    let b = c.deref_mut-2.result.now in
    let kind = string_bytes c.args.exception_type in
    let message = string_bytes c.args.message in
    let stack = string_bytes c.args.stacktrace in
    let pairs = attributes_view c.args.attributes.items in
    let all = exception_pairs kind message stack pairs in
    let kept : c.in_ok-attributes.attributes.kept
    ≡ attributes (event_limits (limits_view b.limits)) all =
    kept-is all (event_limits (limits_view b.limits)) c.in_ok-attributes.ensures
    (c.of_event-limits.ensures
    ∙ ap (λ (b : SpanBody _). event_limits (limits_view b.limits))
    (c.deref-3.ensures ∙ sym c.deref_mut-2.ensures.value)) in
    let made : List ℕ → Kept Attribute → Event =
    λ n k. record { at = c.args.timestamp; name = n; attributes = k } in
    let same : event_view c.new.result
    ≡ event (limits_view b.limits) (codes "exception") c.args.timestamp all =
    c.new.ensures ∙ ap₂ made c.in_ok-name.ensures.ok kept in
    on-ok c.push.result
    (keeps-event b c.args.self.now
    (record_exception kind message stack c.args.timestamp pairs) c.new.result c.push.new.self
    (event (limits_view b.limits) (codes "exception") c.args.timestamp all)
    (ap recording_view c.deref_mut-2.ensures.value ∙ c.self.view_is) tt refl
    (event-room-is c.deref.ensures c.deref-2.ensures c.deref_mut-2.ensures.value c.has_room.ensures
    c.if-not-has_room.false)
    same)
    c.push.ensures.ok

pub returns-clause-err : goal.returns-clause-err
returns-clause-err g c =
    on-err-then c.push.result
    (same-events c.deref_mut-2.result.now c.args.self.now c.push.new.self
    (ap recording_view c.deref_mut-2.ensures.value ∙ c.self.view_is))
    c.push.ensures.err

pub returns-clause-refused_only_where_kept : goal.returns-clause-refused_only_where_kept
returns-clause-refused_only_where_kept g c = on-err c.push.result
    (keeps-one-event c.deref_mut-2.result.now c.args.self.now
    (event-room-is c.deref.ensures c.deref-2.ensures c.deref_mut-2.ensures.value c.has_room.ensures
    c.if-not-has_room.false)
    (ap recording_view c.deref_mut-2.ensures.value ∙ c.self.view_is))

pub returns-in_err-name-clause-refused_only_where_kept :
    goal.returns-in_err-name-clause-refused_only_where_kept
returns-in_err-name-clause-refused_only_where_kept g c = on-err _
    (keeps-one-event c.deref.result.now c.args.self.now
    (event-room-is c.deref.ensures c.deref-2.ensures c.deref.ensures c.has_room.ensures
    c.if-not-has_room.false)
    (ap recording_view c.deref.ensures ∙ c.self.view_is))
