use Rattle.model_message.specs.Canon.{bytes_field, payload_bytes}
use Rattle.otlp_wire.proofs.ResponseBytes.{keyed, of-ok}
use Rattle.otlp_wire.proofs.response_writer.put_len.Goals as goal

pub returns : goal.returns
unfolding payload_bytes
returns g c =
    of-ok c.write_len.result
    (keyed
    (bytes_field c.args.number c.args.bytes.now) _ _ _ c.in_ok-write_varint.ensures.canonical)
    c.write_len.ensures.canonical
