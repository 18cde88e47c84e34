use Rattle.model_export.specs.Export.{attribute_message}
use Rattle.otlp_proto.proofs.Writing.{no-field, and-field, carries, put-messages}
use Rattle.otlp_proto.proofs.encoder.parts.EventSubmessage.put.Goals as goal

pub returns : goal.returns
returns g c =
    let name = rw c.as_str.ensures.value at c.put_text.ensures in
    let attributes = rw c.as_slice.ensures.value at c.put_each.ensures in
    carries (and-field c.put_fixed64.ensures
    (and-field name
    (and-field (put-messages attribute_message _ attributes)
    (and-field c.put_uint32.ensures no-field))))
