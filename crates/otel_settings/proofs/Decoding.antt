-- The text that nothing spells.
use Rattle.std.proofs.Common.{◌≡◌, ℕ, ◌<◌, List, [], ◌∷◌, length, Some, refl, arith}
use Rattle.std.specs.Str.{is_utf8, chars}
use lib.Utf8.{encode}
use Rattle.text_words.specs.Words.{bytes_of}
use Rattle.otel_settings.specs.ResourcePairs.{decoded}

-- An empty word spells the empty text.
pub nothing : (word : List ℕ) → length word < 1 → decoded word ≡ Some []
unfolding bytes_of is_utf8 chars encode
nothing [] short = refl
nothing (b ∷ bytes) short = absurd (omega arith)
