-- The 64-bit words that a generator of random numbers gives.
use Rattle.std.specs.Prelude.{◌≡◌, ℕ, zero, suc}
use Rattle.rand_core.specs.Stream.{Stream, next_u64}
use Rattle.model_span.specs.Identifiers.{Words, words_after}

-- what the generator will answer after this number of words
unfoldable pub after_words : ℕ → Stream → Stream
after_words zero s = s
after_words (suc n) s = (next_u64 (after_words n s)).1

-- its words, from now on
unfoldable pub words_of : Stream → Words
words_of s n = (next_u64 (after_words n s)).0

-- A generator has given this number of words, and no others.
pub record Spends (spent : Words → ℕ) (old new : Stream) : Type 0 where
  pub stream : new ≡ after_words (spent (words_of old)) old
  pub words : words_of new ≡ words_after (spent (words_of old)) (words_of old)
