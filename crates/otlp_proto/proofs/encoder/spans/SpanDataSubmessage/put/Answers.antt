use Rattle.model_export.specs.Export.{attribute_message, event_message, link_message}
use Rattle.otlp_proto.proofs.Writing.{no-field, and-field, carries, put-messages, parent-id}
use Rattle.otlp_proto.proofs.encoder.spans.SpanDataSubmessage.put.Goals as goal

pub returns : goal.returns
returns g c =
    let state = rw c.as_str.ensures.value at c.put_text.ensures in
    let parent =
    rw (c.parent_span_id.ensures, parent-id c.args.self.now.span.parent) at c.put_parent.ensures in
    let name = rw c.name.ensures at c.put_text-2.ensures in
    let kind = rw (c.kind_number.ensures, c.kind.ensures) at c.put_enum.ensures in
    let start = rw c.start_time.ensures at c.put_fixed64.ensures in
    let end = rw c.end_time.ensures at c.put_fixed64-2.ensures in
    let attributes = rw c.attributes.ensures at c.put_each.ensures in
    let dropped = rw c.dropped_attributes_count.ensures at c.put_uint32.ensures in
    let events = rw c.events.ensures at c.put_each-2.ensures in
    let dropped_events = rw c.dropped_events_count.ensures at c.put_uint32-2.ensures in
    let links = rw c.links.ensures at c.put_each-3.ensures in
    let dropped_links = rw c.dropped_links_count.ensures at c.put_uint32-3.ensures in
    let status = rw c.status.ensures at c.put_status.ensures in
    let flags = rw (c.span_flags.ensures, ← c.context-context.ensures) at c.put_fixed32.ensures in
    carries (rw (← c.context-context.ensures)
    (and-field c.put_bytes.ensures
    (and-field c.put_bytes-2.ensures
    (and-field state
    (and-field parent (and-field name (and-field kind (and-field start (and-field end
    (and-field (put-messages attribute_message _ attributes)
    (and-field dropped (and-field (put-messages event_message _ events) (and-field dropped_events
    (and-field (put-messages link_message _ links)
    (and-field dropped_links (and-field status (and-field flags no-field)))))))))))))))))
