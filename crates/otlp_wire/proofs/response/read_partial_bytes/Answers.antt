use Rattle.std.proofs.Common.{◌≡◌, rules, to_z, of_z, w64, sym, ap, ◌∙◌}
use Rattle.model_message.specs.Tables.{◌▸◌}
use Rattle.otlp_wire.proofs.ResponseMeaning.{meaning-value}
use Rattle.otlp_wire.proofs.response.read_partial_bytes.Goals as goal

pub returns-clause-ok : goal.returns-clause-ok
returns-clause-ok c =
    let same : to_z w64 (of_z w64 c.cast_signed.result) ≡ c.cast_signed.result = search rules in
    let counted = c.in_ok-counted.counted in
    meaning-value c.args.body.now counted c.in_ok-counted.ensures.ok
    ∙ ap (λ spans. (spans ▸ counted.error_message.now ▸ tt) ▸ tt)
    (sym (same ∙ c.cast_signed.ensures))
