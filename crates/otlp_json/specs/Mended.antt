-- Texts of JSON in which surrogates are alone, as JavaScript leaves them where it cuts a text
-- between the two code units of a character: `"Ann\ud83d"`. RFC 8259, section 8.2, leaves open what
-- these mean. Here each is read as U+FFFD, as the Collector does. (profile)
use Rattle.std.specs.Prelude.{ℕ, zero, suc, List, [], ◌++◌, take, drop, length, get_or, codes, Bool}
use Rattle.std.specs.Prelude.{false, ◌&&◌, ◌||◌, ◌==◌, if◌then◌else◌, Option, Some, None}
use Rattle.json.specs.Ascii as ascii
use Rattle.json.specs.Text.{code_unit, is_high_surrogate, is_low_surrogate}

-- the byte at a place, or 0 past the end
abbrev pub byte_at : List ℕ → ℕ → ℕ
byte_at text n = get_or text n 0

-- the code unit of UTF-16 whose escape a text begins with: a backslash, `u` and four digits of
-- sixteen, in either case (RFC 8259, section 7)
unfoldable pub unit_in : List ℕ → Option ℕ
unit_in text =
    if (byte_at text 0 == ascii.backslash) && (byte_at text 1 == ascii.lower_u)
    then code_unit (byte_at text 2) (byte_at text 3) (byte_at text 4) (byte_at text 5)
    else None

-- whether there is one, and it is the first of a pair of surrogates, from d800 to dbff
abbrev pub is_high : Option ℕ → Bool
is_high None = false
is_high (Some unit) = is_high_surrogate unit

-- the same of the second, from dc00 to dfff
abbrev pub is_low : Option ℕ → Bool
is_low None = false
is_low (Some unit) = is_low_surrogate unit

-- whether a text begins with the escapes of a pair, whose second one follows at once
abbrev pub begins_pair : List ℕ → Bool
begins_pair text = is_high (unit_in text) && is_low (unit_in (drop 6 text))

-- whether it begins with the escape of a surrogate
abbrev pub begins_surrogate : List ℕ → Bool
begins_surrogate text = is_high (unit_in text) || is_low (unit_in text)

-- What the first piece of a text is read as. It is the escapes of a pair, which stay; or the escape
-- of another surrogate, which is read as that of U+FFFD; or the two bytes with which any other
-- escape begins, so that a backslash which is escaped begins none; or a byte.
unfoldable pub first_piece : List ℕ → List ℕ
first_piece text =
    if begins_pair text then take 12 text
    else if begins_surrogate text then codes "\\ufffd"
    else if byte_at text 0 == ascii.backslash then take 2 text
    else take 1 text

-- all pieces, at most so many
unfoldable pub pieces : ℕ → List ℕ → List ℕ
pieces zero text = []
pieces (suc most) text = first_piece text ++ pieces most (drop (length (first_piece text)) text)

-- The text in which each surrogate that is alone is U+FFFD: all its pieces, which are no more than
-- its bytes.
abbrev pub mended : List ℕ → List ℕ
mended text = pieces (length text) text
