use Rattle.std.proofs.Common.{string_bytes}
use Rattle.std.proofs.lemmas.Str.{is_utf8-from_IsUtf8}
use Rattle.otlp_proto.proofs.Values.{text-member}
use Rattle.otlp_proto.proofs.encoder.values.StringSubmessage.put.Goals as goal

pub returns : goal.returns
returns g c =
    let text =
    rw c.as_str.ensures.value at (is_utf8-from_IsUtf8 c.as_str.result.now c.as_str.utf8) in
    text-member (string_bytes c.args.self.now) text
    (rw (c.as_bytes.ensures.value, c.as_str.ensures.value) at c.put_len.ensures)
