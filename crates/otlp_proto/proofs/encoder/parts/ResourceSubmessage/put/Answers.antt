use Rattle.model_export.specs.Export.{attribute_message}
use Rattle.otlp_proto.proofs.Writing.{no-field, and-field, carries, put-messages, no-uint32}
use Rattle.otlp_proto.proofs.encoder.parts.ResourceSubmessage.put.Goals as goal

pub returns : goal.returns
returns g c =
    let attributes = rw c.as_slice.ensures.value at c.put_each.ensures in
    carries (and-field (put-messages attribute_message _ attributes) (and-field no-uint32 no-field))
