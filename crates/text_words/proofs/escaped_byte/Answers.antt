use Rattle.std.proofs.Common.{sym, ◌∙◌, ap}
use Rattle.std.specs.Result.{result_ok}
use Rattle.text_words.proofs.Texts.{pair_decoded, no_byte, one_byte}
use Rattle.text_words.proofs.escaped_byte.Goals as goal

pub returns-in_err-byte : goal.returns-in_err-byte
returns-in_err-byte c =
    let decoded =
    sym (pair_decoded c.args.high c.args.low) ∙ ap result_ok (sym c.from_hex.ensures)
    ∙ sym c.ok.ensures.value ∙ c.in_err-byte.was in
    c.from_residual.ensures ∙ sym (no_byte _ decoded)

pub returns : goal.returns
returns c =
    let decoded =
    sym (pair_decoded c.args.high c.args.low) ∙ ap result_ok (sym c.from_hex.ensures)
    ∙ sym c.ok.ensures.value ∙ c.in_ok-byte.was in
    one_byte _ _ decoded
