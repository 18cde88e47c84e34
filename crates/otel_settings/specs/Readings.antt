-- How a value is read. (OpenTelemetry Specification, Environment Variable Specification)
use Rattle.std.specs.Prelude.{ℕ, ◌^◌, Bool, true, false, ◌&&◌, List, map, Option, Some, None, codes}
use Rattle.std.specs.Prelude.{if◌then◌else◌, nat_le, bytes_eq, option_and_then}
use Rattle.std.specs.Char.{to_ascii_lowercase}
use Rattle.text_words.specs.Words.{number_below}

-- the text is this word, in letters of either case
abbrev pub is_word : List ℕ → List ℕ → Bool
is_word word text = bytes_eq (map to_ascii_lowercase text) word

-- `true` or `false`, in letters of either case (Boolean)
unfoldable pub boolean : List ℕ → Option Bool
boolean text =
    if is_word (codes "true") text then Some true
    else if is_word (codes "false") text then Some false else None

-- Decimal digits alone, of a number within these bounds. (Integer, Duration and Timeout; digits
-- alone, and the bounds: profile)
unfoldable pub number_in : ℕ → ℕ → List ℕ → Option ℕ
number_in least most text =
    option_and_then (λ n. if nat_le least n && nat_le n most then Some n else None)
    (number_below (2 ^ 32) text)
