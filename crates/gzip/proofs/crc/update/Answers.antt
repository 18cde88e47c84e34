use Rattle.std.proofs.Common.{arith, refl, ap, ◌∙◌, ◌+◌, ◌<◌, ℕ, bit_xor, get_or}
use Rattle.std.proofs.lemmas.List.{get_or-drop}
use Rattle.model_deflate.specs.Crc.{divided_by, crc_bytes}
use Rattle.gzip.proofs.CrcLaws.{crc-word}
use Rattle.gzip.proofs.crc.update.Goals as goal

pub words-init : goal.words-init
words-init c = record { small = λ k. omega (arith, c.type_inv.bytes k); same = refl }

pub words-preserved : goal.words-preserved
words-preserved c =
    let one = c.in-Some.ensures.cases in
    let two = c.in-Some-split_first_chunk.ensures.cases in
    let after = c.in-Some.after.now in
    let later = c.in-Some-split_first_chunk.later.now in
    let left : (k : ℕ) → get_or after k 0 < 256 = λ k.
    rw (one.1, get_or-drop 8 c.words.rest.now k 0) (c.words.invariant.small (8 + k)) in
    let first = c.from_le_bytes-first.result in
    record {
      small = λ k. rw (two.1, get_or-drop 8 after k 0) (left (8 + k));
      same =
          ap (λ s. crc_bytes s later) c.after_words-state.ensures
          ∙ (crc-word (divided_by 64 (bit_xor first c.words.state)) c.from_le_bytes-second.result
          after c.in-Some-split_first_chunk.second.now later two.0 two.1 (omega (arith, two.2)) left
          c.from_le_bytes-second.ensures
          ∙ (crc-word c.words.state first c.words.rest.now c.in-Some.first.now after one.0 one.1
          (omega (arith, one.2)) c.words.invariant.small c.from_le_bytes-first.ensures
          ∙ c.words.invariant.same));
    }
