-- Bytes as hexadecimal digits in lower case. (W3C Trace Context, Traceparent Header Field Values)
use Rattle.std.specs.Prelude.{ℕ, ◌&&◌, ◌||◌, nat_le, Bool, if◌then◌else◌, List, Option, None}
use Rattle.std.specs.List.{list_all}
use Rattle.std.specs.Result.{result_ok}
use Rattle.hex.specs.Hex.{decode_sized}

-- `0` (48) to `9` or `a` (97) to `f` (W3C Trace Context, HEXDIGLC)
unfoldable pub is_lower_digit : ℕ → Bool
is_lower_digit b = (nat_le 48 b && nat_le b 57) || (nat_le 97 b && nat_le b 102)

-- the bytes that such digits spell, two digits each, if there are this many bytes
unfoldable pub lower_bytes : ℕ → List ℕ → Option (List ℕ)
lower_bytes count text =
    if list_all is_lower_digit text then result_ok (decode_sized text count) else None
