-- How a line is read.
use Rattle.std.proofs.Common.{◌≡◌, ℕ, ◌<◌, List, [], ◌∷◌, length, None, refl, ap, arith, codes}
use Rattle.std.specs.Prelude.{option_map}
use Rattle.std.specs.Str.{IsUtf8, is_utf8, chars}
use lib.Utf8.{encode}
use denote.Ref.{Bor}
use Rattle.text_words.specs.Words.{each_of, hex_word}
use Rattle.trace_script.specs.Lines.{words, step, words_line, entry}
use Rattle.text_words.proofs.Each.{words_at}
use Rattle.trace_script.proofs.StepWords.{other_than, no_step}

-- A list of words that isn't empty is read word by word.
pub some_words : (arguments : List (Bor (List ℕ))) → 0 < length arguments
    → words_line (words_at arguments) ≡ option_map words (each_of hex_word (words_at arguments))
unfolding words_line
some_words [] some = absurd (omega arith)
some_words (a ∷ others) some = refl

-- Bytes that aren't UTF-8 name no line.
pub no_name : (name : List ℕ) (arguments : List (List ℕ)) → (IsUtf8 name → ⊥)
    → entry name arguments ≡ None
unfolding entry is_utf8 chars encode
no_name name arguments h =
    rw (
      other_than name (codes "words") h refl,
      other_than name (codes "sampler") h refl,
      other_than name (codes "limits") h refl,
      other_than name (codes "desk") h refl,
      other_than name (codes "max") h refl,
      other_than name (codes "resource") h refl,
      other_than name (codes "scope") h refl,
      other_than name (codes "sattr") h refl,
      other_than name (codes "answer") h refl,
    )
    (ap (option_map step) (no_step name arguments h))
