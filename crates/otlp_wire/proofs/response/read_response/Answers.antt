use Rattle.std.proofs.Common.{◌≡◌, rules, to_z, of_z, w64, sym, ap, ◌∙◌}
use Rattle.std.specs.Int.{cast_signed}
use Rattle.std.specs.String.{string_bytes}
use Rattle.model_message.specs.Tables.{◌▸◌}
use Rattle.otlp_wire.proofs.response.read_response.Goals as goal

pub returns-clause-ok : goal.returns-clause-ok
returns-clause-ok g c =
    let read = c.in_ok-rejected_spans.ensures.ok in
    let same : to_z w64 (of_z w64 c.cast_signed.result) ≡ c.cast_signed.result = search rules in (
      read.0,
      read.1
          ∙ ap
          (λ message. (cast_signed w64 c.in_ok-rejected_spans.rejected_spans ▸ message ▸ tt) ▸ tt)
          (sym c.in_ok-copy_text.ensures.value)
          ∙ ap (λ spans. (spans ▸ string_bytes c.in_ok-copy_text.field-0 ▸ tt) ▸ tt)
          (sym (same ∙ c.cast_signed.ensures)),
    )
