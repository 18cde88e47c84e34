-- What bodies mean.
use Rattle.std.specs.Prelude.{ℕ, zero, suc, ◌+◌, ◌%◌, ◌/◌, List, [], ◌∷◌, ◌++◌, take, length}
use Rattle.std.specs.Prelude.{nat_lt, if◌then◌else◌}
use Rattle.std.specs.Str.{is_utf8, chars}
use lib.Utf8.{encode}
use Rattle.worked_trace.specs.Hex.{hex}
use Rattle.model_message.specs.Reading.{Reading, Fault}
use Rattle.model_message.specs.Wire.{len, septets, row}
use Rattle.model_message.specs.Tables.{Message, key_value, request, response}
use Rattle.model_message.specs.AnyValue.{AnyValue}
use Rattle.model_message.specs.Messages.{meaning, value, max_depth, read_table, joined_rows}

-- what the bytes mean as a request
unfoldable pub read : List ℕ → Reading (Message request)
unfolding meaning septets is_utf8 chars encode
read bytes = meaning request bytes

-- the faults that a request of these bytes has
unfoldable pub faults : List ℕ → List Fault
unfolding read
faults bytes = (read bytes).faults

-- what they mean as a pair of a key and a value
unfoldable pub read_pair : List ℕ → Reading (Message key_value)
unfolding meaning septets is_utf8 chars encode
read_pair bytes = meaning key_value bytes

-- what they mean as a value
unfoldable pub read_value : List ℕ → Reading AnyValue
unfolding value read_table joined_rows row septets is_utf8 chars encode
read_value bytes = value max_depth (len bytes ∷ [])

-- what they mean as a response
unfoldable pub read_response : List ℕ → Reading (Message response)
unfolding meaning septets is_utf8 chars encode
read_response bytes = meaning response bytes

-- the first n bytes, then one byte fewer, down to one byte
abbrev pub beginnings : ℕ → List ℕ → List (List ℕ)
beginnings zero bytes = []
beginnings (suc n) bytes = take (suc n) bytes ∷ beginnings n bytes

-- ---- values in values

-- some bytes, fewer than 2 ^ 14, after their length
abbrev pub with_size : List ℕ → List ℕ
with_size bytes = let n =
    length bytes in (if nat_lt n 128 then n ∷ [] else (n % 128 + 128) ∷ n / 128 ∷ []) ++ bytes

-- a value in this many arrays
unfoldable pub in_arrays : ℕ → List ℕ → List ℕ
unfolding hex
in_arrays zero value = value
in_arrays (suc n) value = hex "2a" ++ with_size (hex "0a" ++ with_size (in_arrays n value))

-- the number 1 in this many arrays
unfoldable pub nested_arrays : ℕ → List ℕ
unfolding hex in_arrays
nested_arrays n = in_arrays n (hex "18 01")

-- the number 1 in this many lists of pairs
unfoldable pub nested_lists : ℕ → List ℕ
unfolding hex
nested_lists zero = hex "18 01"
nested_lists (suc n) =
    hex "32" ++ with_size (hex "0a" ++ with_size (hex "0a 01 61 12" ++ with_size (nested_lists n)))

-- the body of a resource that has the value as its attribute a
unfoldable pub attribute_body : List ℕ → List ℕ
unfolding hex
attribute_body value =
    hex "0a" ++ with_size (hex "0a" ++ with_size
    (hex "0a" ++ with_size (hex "0a 01 61 12" ++ with_size value)))
