use Rattle.std.proofs.Common.{◌≡◌}
use Rattle.text_words.specs.Words.{each_of}
use Rattle.text_words.specs.Words.{hex_word}
use Rattle.text_words.proofs.Each.{words_at, appended, rest_of}
use Rattle.text_words.proofs.generator_words.Given as goal

abbrev pub invariant-loop-word : goal.invariant-loop-word
invariant-loop-word g l =
    appended l.all.items (rest_of hex_word l.words l.word-index)
    ≡ each_of hex_word (words_at l.words)
