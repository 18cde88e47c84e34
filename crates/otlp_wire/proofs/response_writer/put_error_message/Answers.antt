use Rattle.std.proofs.Common.{sym, ap, ◌∙◌, ◌++◌, append-nil}
use Rattle.otlp_wire.proofs.ResponseBytes.{some-bytes, no-bytes}
use Rattle.otlp_wire.proofs.response_writer.put_error_message.Goals as goal

pub returns-in_ok-put_len : goal.returns-in_ok-put_len
returns-in_ok-put_len g c =
    rw (← c.as_bytes.ensures.value) c.in_ok-put_len.ensures
    ∙ ap (λ bs. c.args.out.now.items ++ bs)
    (sym (some-bytes 2 c.args.message.now (sym c.is_empty.ensures ∙ c.if-not-is_empty.true)))

pub returns-else-not-is_empty : goal.returns-else-not-is_empty
returns-else-not-is_empty g c =
    sym (ap (λ bs. c.args.out.now.items ++ bs)
    (no-bytes 2 c.args.message.now (sym c.is_empty.ensures ∙ c.if-not-is_empty.false))
    ∙ append-nil c.args.out.now.items)
