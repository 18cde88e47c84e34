use Rattle.std.proofs.Common.{ap, ap₂, ◌∙◌, bit_xor}
use Rattle.model_deflate.specs.Crc.{divided_by}
use Rattle.gzip.proofs.CrcLaws.{words-side_by_side}
use Rattle.gzip.proofs.crc.after_words.Goals as goal

pub returns : goal.returns
returns c =
    ap₂ bit_xor c.word_steps-low.ensures
    (c.word_steps-high.ensures
    ∙ ap (λ n. divided_by 128 (bit_xor c.args.first n)) c.from.ensures)
    ∙ words-side_by_side (bit_xor c.args.first c.args.state) c.args.second
