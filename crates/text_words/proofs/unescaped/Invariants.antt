use Rattle.std.proofs.Common.{◌≡◌, length}
use Rattle.text_words.specs.Words.{bytes_of}
use Rattle.text_words.proofs.Each.{appended}
use Rattle.text_words.proofs.unescaped.Given as goal

abbrev pub invariant-loop-rest : goal.invariant-loop-rest
invariant-loop-rest g l = appended l.bytes.items (bytes_of l.rest) ≡ bytes_of l.word

abbrev pub decreases-loop-rest : goal.decreases-loop-rest
decreases-loop-rest g l = length l.rest
