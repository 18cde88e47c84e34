use Rattle.std.proofs.Common.{◌≡◌, sym, ap, ◌∙◌, true, false}
use Rattle.model_span.specs.Attributes.{Attribute, Kept, attributes}
use Rattle.model_span.specs.Spans.{Link, is_ignored, link, link_limits}
use Rattle.model_span.proofs.Calls.{adds-ignored-link}
use Rattle.otlp_ids.specs.SpanContext.{context_view}
use Rattle.otlp_value.specs.Value.{attributes_view}
use Rattle.otlp_span.specs.declared.body.SpanBody.{SpanBody}
use Rattle.otlp_span.specs.Body.{recording_view}
use Rattle.otlp_span.specs.Parts.{limits_view, link_view}
use Rattle.otlp_span.proofs.Recorded.{counts-link, ignored-is, keeps-link, keeps-one-link, kept-is}
use Rattle.otlp_span.proofs.Recorded.{link-room-is, on-err, on-err-then, on-ok, same-links}
use Rattle.otlp_span.proofs.record.SpanRecord.add_link.Goals as goal

pub returns-then-is_ignored_link-clause-ok : goal.returns-then-is_ignored_link-clause-ok
returns-then-is_ignored_link-clause-ok g c =
    let to = context_view c.args.span_context in
    let ignored : is_ignored to (attributes_view c.args.attributes.items) ≡ true =
    ignored-is to c.deref.result.now c.args.attributes.items c.is_ignored_link.result true
    c.deref.ensures.value c.is_ignored_link.ensures c.if-is_ignored_link.true in
    adds-ignored-link c.args.self.now to (attributes_view c.args.attributes.items) ignored

pub returns-then-not-has_room-clause-ok : goal.returns-then-not-has_room-clause-ok
returns-then-not-has_room-clause-ok g c =
    let to = context_view c.args.span_context in
    let counts : is_ignored to (attributes_view c.args.attributes.items) ≡ false =
    ignored-is to c.deref.result.now c.args.attributes.items c.is_ignored_link.result false
    c.deref.ensures.value c.is_ignored_link.ensures c.if-is_ignored_link.false in
    counts-link c.deref_mut.result.now c.args.self.now to
    (attributes_view c.args.attributes.items) c.count.new.self
    (ap recording_view c.deref_mut.ensures.value ∙ c.self.view_is) counts
    (link-room-is c.deref-2.ensures c.deref-3.ensures c.deref_mut.ensures.value c.has_room.ensures
    c.if-not-has_room.true)
    c.count.ensures

pub returns-in_err-attributes-clause-refused_only_where_kept :
    goal.returns-in_err-attributes-clause-refused_only_where_kept
returns-in_err-attributes-clause-refused_only_where_kept g c = on-err c.from_residual.result
    (keeps-one-link c.deref-2.result.now c.args.self.now
    (link-room-is c.deref-2.ensures c.deref-3.ensures c.deref-2.ensures c.has_room.ensures
    c.if-not-has_room.false)
    (ap recording_view c.deref-2.ensures ∙ c.self.view_is))

pub returns-clause-ok : goal.returns-clause-ok
returns-clause-ok g c =
    let b = c.deref_mut-2.result.now in
    let to = context_view c.args.span_context in
    let pairs = attributes_view c.args.attributes.items in
    let counts : is_ignored to pairs ≡ false =
    ignored-is to c.deref.result.now c.args.attributes.items c.is_ignored_link.result false
    c.deref.ensures.value c.is_ignored_link.ensures c.if-is_ignored_link.false in
    let kept : c.in_ok-attributes.attributes.kept
    ≡ attributes (link_limits (limits_view b.limits)) pairs =
    kept-is pairs (link_limits (limits_view b.limits)) c.in_ok-attributes.ensures
    (c.of_link-limits.ensures
    ∙ ap (λ (b : SpanBody _). link_limits (limits_view b.limits))
    (c.deref-4.ensures ∙ sym c.deref_mut-2.ensures.value)) in
    let made : Kept Attribute → Link = λ k. record { context = to; attributes = k } in
    let same : link_view c.new.result ≡ link (limits_view b.limits) to pairs =
    c.new.ensures ∙ ap made kept in
    on-ok c.push.result
    (keeps-link b c.args.self.now to pairs c.new.result c.push.new.self
    (ap recording_view c.deref_mut-2.ensures.value ∙ c.self.view_is) counts
    (link-room-is c.deref-2.ensures c.deref-3.ensures c.deref_mut-2.ensures.value c.has_room.ensures
    c.if-not-has_room.false)
    same)
    c.push.ensures.ok

pub returns-clause-err : goal.returns-clause-err
returns-clause-err g c =
    on-err-then c.push.result
    (same-links c.deref_mut-2.result.now c.args.self.now c.push.new.self
    (ap recording_view c.deref_mut-2.ensures.value ∙ c.self.view_is))
    c.push.ensures.err

pub returns-clause-refused_only_where_kept : goal.returns-clause-refused_only_where_kept
returns-clause-refused_only_where_kept g c = on-err c.push.result
    (keeps-one-link c.deref_mut-2.result.now c.args.self.now
    (link-room-is c.deref-2.ensures c.deref-3.ensures c.deref_mut-2.ensures.value c.has_room.ensures
    c.if-not-has_room.false)
    (ap recording_view c.deref_mut-2.ensures.value ∙ c.self.view_is))

pub returns-clause-says_something : goal.returns-clause-says_something
returns-clause-says_something g c =
    let to = context_view c.args.span_context in
    on-err c.push.result
    (ignored-is to c.deref.result.now c.args.attributes.items c.is_ignored_link.result false
    c.deref.ensures.value c.is_ignored_link.ensures c.if-is_ignored_link.false)
