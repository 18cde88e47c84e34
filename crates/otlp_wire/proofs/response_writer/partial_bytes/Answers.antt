use Rattle.std.proofs.Common.{sym, ap, ◌∙◌, ◌++◌}
use Rattle.model_message.specs.Canon.{row_bytes, unless_empty}
use Rattle.otlp_wire.proofs.ResponseBytes.{partial-row}
use Rattle.otlp_wire.proofs.response_writer.partial_bytes.Goals as goal

pub returns : goal.returns
returns g c =
    let first = rw c.new-out.ensures.items at c.in_ok-put_rejected_spans.ensures in
    c.in_ok-put_error_message.ensures
    ∙ ap (λ bs. bs ++ row_bytes (unless_empty 2 c.args.message.now)) first
    ∙ sym (partial-row c.args.rejected c.args.message.now)
