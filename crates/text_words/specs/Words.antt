-- What the words of a line mean: a word is a list of bytes without a space.
use Rattle.std.specs.Prelude.{◌≡◌, ◌≢◌, ◌⊎◌, ◌↔◌, ◌<◌, ◌++◌, ℕ, ◌+◌, ◌-◌, ◌*◌, ◌^◌, ◌==◌, ◌&&◌}
use Rattle.std.specs.Prelude.{nat_lt, ℤ, pos, neg_ℤ, List, [], ◌∷◌, length}
use Rattle.std.specs.Prelude.{Bool, false, if◌then◌else◌, Option, Some, None, option_map, bytes_eq}
use Rattle.std.specs.Prelude.{codes, Result, Ok, Err}
use Rattle.std.specs.Int.{w64, from_be_bytes}
use Rattle.std.specs.Result.{result_ok}
use Rattle.std.specs.Str.{IsUtf8, is_utf8, all_ascii_digits}
use Rattle.hex.specs.Hex.{hex_digit_value, decode_sized}
use Rattle.text_words.specs.declared.WordFault.{WordFault}
use Rattle.text_words.specs.declared.WordFault.TheVariants.{Bad, OutOfMemory}

-- What was read, seen by view, is what there is to read, unless memory was refused.
abbrev pub Gives : {X Y : Type 0} → (X → Y) → Result X WordFault → Option Y → Type 0
Gives view (Ok x) read = read ≡ Some (view x)
Gives view (Err Bad) read = read ≡ None
Gives view (Err OutOfMemory) read = Unit {0}

-- ---- numbers

-- one decimal digit or more, and nothing else
abbrev pub is_number : List ℕ → Bool
is_number [] = false
is_number (c ∷ cs) = all_ascii_digits (c ∷ cs)

-- the number that decimal digits write: each counts by its place
abbrev pub decimal_value : List ℕ → ℕ
decimal_value [] = 0
decimal_value (c ∷ cs) = (c - 48) * 10 ^ length cs + decimal_value cs

-- the number that a word writes, if it is below the limit
unfoldable pub number_below : ℕ → List ℕ → Option ℕ
number_below limit word =
    if is_number word && nat_lt (decimal_value word) limit then Some (decimal_value word) else None

-- a whole number of 64 bits, with `-` (45) in front where it is below 0
unfoldable pub signed_number : List ℕ → Option ℤ
signed_number [] = None
signed_number (c ∷ cs) =
    if c == 45 then option_map (λ n. neg_ℤ (pos n)) (number_below (2 ^ 63 + 1) cs)
    else option_map pos (number_below (2 ^ 63) (c ∷ cs))

-- the bytes that hexadecimal digits of either case spell, two digits each, if they are this many
unfoldable pub hex_bytes : ℕ → List ℕ → Option (List ℕ)
hex_bytes count word = result_ok (decode_sized word count)

-- sixteen hexadecimal digits: the number of their eight bytes, the most significant first
unfoldable pub hex_word : List ℕ → Option ℕ
hex_word word = option_map (from_be_bytes w64) (hex_bytes 8 word)

-- ---- texts

infixl 10 ◌>>=◌
abbrev pub ◌>>=◌ : {A B : Type 0} → Option A → (A → Option B) → Option B
None >>= f = None
(Some x) >>= f = f x

-- one more in front, if all are there
abbrev pub in_front : {X : Type 0} → Option X → Option (List X) → Option (List X)
in_front first rest = first >>= λ x. option_map (λ xs. x ∷ xs) rest

-- what the function gives of each, where it gives something of all
abbrev pub each_of : {X Y : Type 0} → (X → Option Y) → List X → Option (List Y)
each_of f [] = Some []
each_of f (x ∷ xs) = in_front (f x) (each_of f xs)

-- the byte of two hexadecimal digits, of either case
abbrev pub hex_byte : ℕ → ℕ → Option ℕ
hex_byte high low = do
  h ← hex_digit_value high
  l ← hex_digit_value low
  Some (h * 16 + l)

-- two hexadecimal digits, and nothing else
unfoldable pub byte_of : List ℕ → Option ℕ
byte_of (high ∷ low ∷ []) = hex_byte high low
byte_of _ = None

-- The bytes that a word spells: `%` (37) and two hexadecimal digits are a byte, any other byte
-- stands for itself.
unfoldable pub bytes_of : List ℕ → Option (List ℕ)
bytes_of [] = Some []
bytes_of (c ∷ []) = if c == 37 then None else Some (c ∷ [])
bytes_of (c ∷ d ∷ []) = if c == 37 then None else in_front (Some c) (bytes_of (d ∷ []))
bytes_of (c ∷ d ∷ e ∷ rest) =
    if c == 37 then in_front (hex_byte d e) (bytes_of rest)
    else in_front (Some c) (bytes_of (d ∷ e ∷ rest))

-- the bytes, if they are text
abbrev pub utf8_of : List ℕ → Option (List ℕ)
utf8_of bs = if is_utf8 bs then Some bs else None

-- the text that a word spells: `%` alone is the text of no bytes, which no other word spells
unfoldable pub text_of : List ℕ → Option (List ℕ)
text_of [] = None
text_of (c ∷ cs) = if bytes_eq (c ∷ cs) (codes "%") then Some [] else bytes_of (c ∷ cs) >>= utf8_of

-- the first byte that a word spells, and the word after its spelling
abbrev pub first_byte_of : List ℕ → Option (ℕ × List ℕ)
first_byte_of [] = None
first_byte_of (c ∷ []) = if c == 37 then None else Some (c, [])
first_byte_of (c ∷ d ∷ []) = if c == 37 then None else Some (c, d ∷ [])
first_byte_of (c ∷ d ∷ e ∷ rest) =
    if c == 37 then option_map (λ b. (b, rest)) (hex_byte d e) else Some (c, d ∷ e ∷ rest)

-- ---- parts of a word

-- ---- how a text is spelled

-- a byte is spelled by itself, unless it is `%`, or by `%` and two hexadecimal digits
abbrev pub SpellsByte : List ℕ → ℕ → Type 0
SpellsByte piece b =
    ((piece ≡ b ∷ []) × (b ≢ 37))
    ⊎ ((high : ℕ) × (low : ℕ) × (piece ≡ 37 ∷ high ∷ low ∷ []) × (hex_byte high low ≡ Some b))

-- bytes are spelled one after the other
abbrev pub SpellsBytes : List ℕ → List ℕ → Type 0
SpellsBytes word [] = word ≡ []
SpellsBytes word (b ∷ bs) =
    (piece : List ℕ) × (rest : List ℕ) × (word ≡ piece ++ rest) × SpellsByte piece b
    × SpellsBytes rest bs

-- a text without bytes is spelled `%`, any other byte by byte
abbrev pub SpellsText : List ℕ → List ℕ → Type 0
SpellsText word text =
    ((word ≡ 37 ∷ []) × (text ≡ [])) ⊎ ((0 < length text) × SpellsBytes word text × IsUtf8 text)

-- a word stands for a text exactly where it spells it (profile)
abbrev pub TextsAreSpelled : Type 0
TextsAreSpelled = (word text : List ℕ) → (text_of word ≡ Some text) ↔ SpellsText word text
