use Rattle.otlp_proto.proofs.Writing.{no-field, and-field, carries}
use Rattle.otlp_proto.proofs.encoder.parts.StatusSubmessage.put.Goals as goal

pub returns : goal.returns
returns g c =
    let message = rw c.status_message.ensures at c.put_text.ensures in
    let code = rw c.status_code.ensures at c.put_enum.ensures in
    carries (and-field message (and-field code no-field))
