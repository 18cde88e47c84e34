use Rattle.std.proofs.Common.{Some, sym, ap, ◌∙◌, arith}
use Rattle.otel_settings.proofs.Decoding.{nothing}
use Rattle.otel_settings.proofs.pair_texts.decoded.Goals as goal

pub returns-in-empty : goal.returns-in-empty
returns-in-empty g c =
    nothing c.args.word.now (omega (arith, c.in-empty.len_below))
    ∙ ap Some (sym c.new.ensures.bytes)
