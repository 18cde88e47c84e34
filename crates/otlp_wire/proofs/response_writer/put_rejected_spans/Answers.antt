use Rattle.std.proofs.Common.{◌≡◌, ◌≢◌, sym, ap, ◌∙◌, ◌++◌, append-nil, arith}
use Rattle.model_message.specs.Wire.{varint}
use Rattle.model_message.specs.Canon.{payload_bytes, row_bytes, number_field}
use Rattle.otlp_wire.proofs.ResponseBytes.{keyed, some-number, no-number}
use Rattle.otlp_wire.proofs.response_writer.put_rejected_spans.Goals as goal

pub returns-in_ok-write_varint-2 : goal.returns-in_ok-write_varint-2
unfolding payload_bytes
returns-in_ok-write_varint-2 g c =
    let some : c.args.rejected ≢ 0 = omega (arith, c.if-rejected-ne0.true) in
    keyed (record { number = 1; payload = varint c.args.rejected }) _ _ _
    c.in_ok-write_varint.ensures.canonical c.in_ok-write_varint-2.ensures.canonical
    ∙ ap (λ bs. c.args.out.now.items ++ bs) (sym (some-number c.args.rejected some))

pub returns-else-rejected-ne0 : goal.returns-else-rejected-ne0
returns-else-rejected-ne0 g c =
    let none : c.args.rejected ≡ 0 = omega (arith, c.if-rejected-ne0.false) in
    sym (ap (λ x. c.args.out.now.items ++ row_bytes (number_field 1 x)) none
    ∙ ap (λ bs. c.args.out.now.items ++ bs) no-number ∙ append-nil c.args.out.now.items)
