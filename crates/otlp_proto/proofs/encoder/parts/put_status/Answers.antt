use Rattle.std.proofs.Common.{◌≡◌, ◌≢◌, refl, length, arith}
use Rattle.model_message.specs.Tables
use Rattle.model_message.specs.Canon.{canon}
use Rattle.model_export.specs.Export.{status_message}
use Rattle.otlp_span.specs.Parts.{status_view}
use Rattle.otlp_proto.proofs.Writing.{some-message, no-message}
use Rattle.otlp_proto.proofs.encoder.parts.put_status.Goals as goal

pub returns-then-len-ne0 : goal.returns-then-len-ne0
returns-then-len-ne0 g c =
    let some : length (canon Tables.status (status_message (status_view c.args.status.now))) ≢ 0 =
    λ e. c.if-len-ne0.true (omega (arith, e, c.encoded_len-len.ensures.size)) in
    some-message refl some c.put_sized.ensures

pub returns-else-len-ne0 : goal.returns-else-len-ne0
returns-else-len-ne0 g c =
    let none : length (canon Tables.status (status_message (status_view c.args.status.now))) ≡ 0 =
    omega (arith, c.if-len-ne0.false, c.encoded_len-len.ensures.size) in
    no-message refl none c.encoded_len-len.ensures.whole
