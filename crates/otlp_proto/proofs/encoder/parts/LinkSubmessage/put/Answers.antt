use Rattle.model_export.specs.Export.{attribute_message}
use Rattle.otlp_proto.proofs.Writing.{no-field, and-field, carries, put-messages}
use Rattle.otlp_proto.proofs.encoder.parts.LinkSubmessage.put.Goals as goal

pub returns : goal.returns
returns g c =
    let state = rw c.as_str.ensures.value at c.put_text.ensures in
    let attributes = rw c.as_slice.ensures.value at c.put_each.ensures in
    let flags = rw c.flags_number.ensures at c.put_fixed32.ensures in
    carries (and-field c.put_bytes.ensures
    (and-field c.put_bytes-2.ensures
    (and-field state
    (and-field (put-messages attribute_message _ attributes)
    (and-field c.put_uint32.ensures (and-field flags no-field))))))
