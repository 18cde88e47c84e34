use Rattle.std.proofs.Common.{◌≡◌, ℕ, List, ap, ◌*◌, ◌/◌, length, refl, ◌∙◌, arith, w64}
use Rattle.std.specs.Int.{to_be_bytes}
use Rattle.rand_core.specs.Steps.{word_bytes}
use Rattle.rand_core.proofs.StepsLemmas.{word_written}
use Rattle.rand_core.specs.Stream.{Stream}
use Rattle.otlp_ids.proofs.Drawing.{filled}
use Rattle.otlp_ids.proofs.fill_with_words.Goals as goal

pub words-init : goal.words-init
unfolding word_bytes
words-init g c = refl

pub words-preserved : goal.words-preserved
words-preserved g c =
    let wrote = c.copy_from_slice.ensures.after ∙ c.to_be_bytes.ensures in
    let len : length c.copy_from_slice.new.self ≡ 8 = rw wrote refl in
    word_written (to_be_bytes w64) _ c.words.i
    (8 * c.words.i) _ _ _ _ _ c.words.bytes c.copy_from_slice.new.self _
    c.words.invariant c.next_u64-word.ensures wrote (omega arith) (omega arith)

pub returns : goal.returns
returns g c =
    let all =
    filled (to_be_bytes w64) _ _ c.words.i (length c.args.bytes.now / 8)
    (8 * c.words.i) c.words.bytes c.words.invariant (omega arith) (omega arith) in
    record {
      bytes = ap (λ (p : List ℕ × Stream). p.0) all;
      rest = ap (λ (p : List ℕ × Stream). p.1) all;
    }
