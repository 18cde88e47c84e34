-- The key and the value of a member of `tracestate`. (W3C Trace Context level 2, Tracestate Header
-- Field Values)
use Rattle.std.specs.Prelude.{ℕ, ◌-◌, ◌==◌, ◌&&◌, ◌||◌, not, nat_le, nat_lt, Bool, false}
use Rattle.std.specs.Prelude.{List, [], ◌∷◌, length, slice_index}
use Rattle.std.specs.List.{list_all}

-- a letter in lower case (W3C Trace Context, lcalpha)
abbrev pub is_lower_letter : ℕ → Bool
is_lower_letter b = nat_le 97 b && nat_le b 122

-- a digit
abbrev pub is_digit : ℕ → Bool
is_digit b = nat_le 48 b && nat_le b 57

-- a byte of a key after its first: a letter in lower case, a digit, `_` (95), `-` (45), `*` (42),
-- `/` (47) or `@` (64)
unfoldable pub is_key_byte : ℕ → Bool
is_key_byte b =
    is_lower_letter b || is_digit b || b == 95 || b == 45 || b == 42 || b == 47 || b == 64

-- a key: a letter in lower case or a digit, and up to 255 bytes of a key after it (W3C Trace
-- Context level 2, key)
unfoldable pub is_key : List ℕ → Bool
is_key [] = false
is_key (b ∷ bytes) =
    (is_lower_letter b || is_digit b) && nat_le (length bytes) 255 && list_all is_key_byte bytes

-- a byte of a value: a space (32) or visible ASCII, but no `,` (44) and no `=` (61) (W3C Trace
-- Context, chr)
unfoldable pub is_value_byte : ℕ → Bool
is_value_byte b = nat_le 32 b && nat_le b 126 && not (b == 44) && not (b == 61)

-- a value: 1 to 256 such bytes, the last of which is no space (W3C Trace Context, value)
unfoldable pub is_value : List ℕ → Bool
is_value value =
    nat_lt 0 (length value) && nat_le (length value) 256 && list_all is_value_byte value
    && not (slice_index value (length value - 1) == 32)
