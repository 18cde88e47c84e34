-- What a reader sees of a JSON text: its tokens, where a number with a point or an exponent is the
-- double that it reads as.
use Rattle.std.specs.Prelude.{ℕ, ℤ, List, [], ◌∷◌, ◌++◌, map, Option, Some, codes, decimal, Bool}
use Rattle.std.specs.Prelude.{◌||◌, ◌==◌, if◌then◌else◌}
use Rattle.std.specs.Fmt.{signed_decimal}
use Rattle.std.specs.List.{list_any}
use Rattle.std.specs.Float.{Float, binary64}
use Rattle.std.specs.Float.Ieee.{fin, inf, nan}
use Rattle.std.specs.Prelude.{true, false}
use Rattle.fast_float.specs.Parse.{parse_float}
use Rattle.hex.specs.Hex.{encode_lower}
use Rattle.json.specs.Token.{Token, begin_object, end_object, begin_array, end_array, key, string}
use Rattle.json.specs.Token.{number, boolean, null, bad}

pub data Seen : Type 0 where
  Other : Token → Seen
  Number : Option Float → Seen

-- whether a sign of a number is a point (46), or the `e` (101) or `E` (69) of an exponent
abbrev pub is_mark : ℕ → Bool
is_mark b = (b == 46) || (b == 101) || (b == 69)

-- A number: its digits, or the double that it reads as where it has a point or an exponent. So a
-- whole number that is written with digits alone is exactly that number.
abbrev pub number_seen : List ℕ → Seen
number_seen s =
    if list_any is_mark s then Number (parse_float binary64 s) else Other (number s)

-- a token
abbrev pub seen_of : Token → Seen
seen_of begin_object = Other begin_object
seen_of end_object = Other end_object
seen_of begin_array = Other begin_array
seen_of end_array = Other end_array
seen_of (key s) = Other (key s)
seen_of (string s) = Other (string s)
seen_of (number s) = number_seen s
seen_of (boolean b) = Other (boolean b)
seen_of null = Other null
seen_of bad = Other bad

-- those of a text
abbrev pub seen : List Token → List Seen
seen tokens = map seen_of tokens

-- an object with these members, and an array with these items
abbrev pub braces : List Seen → List Seen
braces members = Other begin_object ∷ (members ++ Other end_object ∷ [])

abbrev pub brackets : List Seen → List Seen
brackets items = Other begin_array ∷ (items ++ Other end_array ∷ [])

-- a member whose value is a text
abbrev pub text_member : List ℕ → List ℕ → List Token
text_member name text = key name ∷ string text ∷ []

-- a member whose value is bytes in hexadecimal (JSON Protobuf Encoding: trace and span ids)
abbrev pub hex_member : List ℕ → List ℕ → List Token
hex_member name bytes = text_member name (encode_lower bytes)

-- a member whose value is a number of 64 bits: its digits as a text (JSON Protobuf Encoding)
abbrev pub long_member : List ℕ → ℕ → List Token
long_member name n = text_member name (decimal n)

-- a member whose value is a number
abbrev pub number_member : List ℕ → ℕ → List Token
number_member name n = key name ∷ number (decimal n) ∷ []

-- a member whose value is a number with a sign
abbrev pub signed_member : List ℕ → ℤ → List Token
signed_member name n = key name ∷ number (signed_decimal n) ∷ []

-- a member whose value is an object, or an array
abbrev pub object_member : List ℕ → List Seen → List Seen
object_member name members = Other (key name) ∷ braces members

abbrev pub array_member : List ℕ → List Seen → List Seen
array_member name items = Other (key name) ∷ brackets items

-- A double: a number, or a text for what JSON has no number for (Protocol Buffers, "JSON Mapping").
abbrev pub float_seen : Float → Seen
float_seen nan = Other (string (codes "NaN"))
float_seen (inf true) = Other (string (codes "-Infinity"))
float_seen (inf false) = Other (string (codes "Infinity"))
float_seen (fin s m e) = Number (Some (fin s m e))
