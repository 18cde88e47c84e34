use Rattle.std.proofs.Common.{sym, ◌∙◌}
use Rattle.std.proofs.lemmas.Str.{is_utf8-from_IsUtf8}
use Rattle.otlp_proto.proofs.Writing.{some-text, no-text}
use Rattle.otlp_proto.proofs.encoder.fields.put_text.Goals as goal

pub returns-then-not-is_empty : goal.returns-then-not-is_empty
returns-then-not-is_empty g c =
    some-text (sym c.is_empty.ensures ∙ c.if-not-is_empty.true)
    (is_utf8-from_IsUtf8 c.args.text.now c.utf8.text)
    (rw (← c.as_bytes.ensures.value) c.put_len.ensures)

pub returns-else-not-is_empty : goal.returns-else-not-is_empty
returns-else-not-is_empty g c =
    no-text (sym c.is_empty.ensures ∙ c.if-not-is_empty.false)
    (is_utf8-from_IsUtf8 c.args.text.now c.utf8.text)
