use Rattle.std.proofs.Common.{◌∙◌, Some, string_bytes, map, arith}
use Rattle.std.proofs.lemmas.List.{length-map}
use Rattle.model_span.specs.Attributes.{first_chars}
use Rattle.otlp_value.proofs.Cutting.{with_first-all, one-more}
use Rattle.otlp_value.proofs.cut_texts.Goals as goal

pub loop-text-preserved : goal.loop-text-preserved
loop-text-preserved g c =
    let counted = length-map c.args.texts.now string_bytes in
    one-more (first_chars (Some c.args.length)) string_bytes
    (map string_bytes c.args.texts.now) c.loop-text.text-index c.loop-text.texts c.text-item.result
    c.cut_text.new.text c.loop-text.invariant
    (omega (arith, counted, c.loop-text-test.true)) c.cut_text.ensures

pub returns : goal.returns
returns g c =
    let counted = length-map c.args.texts.now string_bytes in
    c.loop-text.invariant
    ∙ with_first-all (first_chars (Some c.args.length))
    (map string_bytes c.args.texts.now) c.loop-text.text-index
    (omega (arith, counted, c.loop-text-test.false))
