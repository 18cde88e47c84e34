use Rattle.model_export.specs.Export.{attribute_message}
use Rattle.otlp_proto.proofs.Writing.{no-field, and-field, carries, put-messages, no-uint32}
use Rattle.otlp_proto.proofs.encoder.parts.ScopeSubmessage.put.Goals as goal

pub returns : goal.returns
returns g c =
    let name = rw c.as_str.ensures.value at c.put_text.ensures in
    let version = rw c.as_str-2.ensures.value at c.put_text-2.ensures in
    let attributes = rw c.as_slice.ensures.value at c.put_each.ensures in
    carries (and-field name
    (and-field version
    (and-field (put-messages attribute_message _ attributes) (and-field no-uint32 no-field))))
