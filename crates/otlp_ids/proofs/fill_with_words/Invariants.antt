use Rattle.std.proofs.Common.{◌≡◌, ◌*◌, take, w64}
use Rattle.std.specs.Int.{to_be_bytes}
use Rattle.rand_core.specs.Stream.{next_u64}
use Rattle.rand_core.specs.Steps.{word_bytes}
use Rattle.otlp_ids.proofs.fill_with_words.Given as goal

abbrev pub invariant-words : goal.invariant-words
invariant-words g l =
    (take (8 * l.i) l.bytes, g.R.Rng.stream l.rng)
    ≡ word_bytes (to_be_bytes w64) next_u64 l.i (g.R.Rng.stream l.fn.rng)
