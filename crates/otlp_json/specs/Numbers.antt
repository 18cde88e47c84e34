-- The numbers that texts are. (Protocol Buffers, "ProtoJSON Format"; RFC 8259, section 6)
use Rattle.std.specs.Prelude.{ℕ, ◌-◌, ◌^◌, List, [], ◌∷◌, ◌++◌, drop, Bool, true, false}
use Rattle.std.specs.Prelude.{nat_le, ◌==◌, if◌then◌else◌, Option, Some, None, Result, Ok, Err}
use Rattle.std.specs.Prelude.{codes, bytes_eq, to_bits}
use Rattle.std.specs.Float.{Float, binary64, float_is_finite}
use Rattle.std.specs.Str.Parse.{digits_value}
use Rattle.fast_float.specs.Parse.{parse_float}
use Rattle.fast_float.specs.Text.{Parts, scan, point_at, whole_of}
use Rattle.json.specs.Word.{after_number}
use Rattle.otlp_json.specs.declared.fault.JsonFault.{JsonFault}
use Rattle.otlp_json.specs.declared.fault.JsonFault.TheVariants as faults

-- nothing comes after it
abbrev pub is_at_end : Option (List ℕ) → Bool
is_at_end None = false
is_at_end (Some []) = true
is_at_end (Some (b ∷ bs)) = false

-- the whole text is a number of JSON (RFC 8259, section 6)
abbrev pub is_number : List ℕ → Bool
is_number text = is_at_end (after_number text)

-- whether a minus (45) is before the digits
abbrev pub is_negative : List ℕ → Bool
is_negative [] = false
is_negative (b ∷ bs) = b == 45

-- the text without its minus
abbrev pub unsigned : List ℕ → List ℕ
unsigned [] = []
unsigned (b ∷ bs) = if b == 45 then bs else b ∷ bs

-- the digits after the point, once the exponent has moved it, are worth nothing
abbrev pub is_whole : Parts → Bool
is_whole parts = digits_value 10 (drop (point_at parts) (parts.whole ++ parts.fraction)) == 0

-- a number, or its negation in two's complement of 64 bits
abbrev pub signed_bits : Bool → ℕ → ℕ
signed_bits false n = n
signed_bits true n = if n == 0 then 0 else 2 ^ 64 - n

-- a whole number of at most this size, or of at most the second one below 0
abbrev pub in_range : Bool → ℕ → ℕ → ℕ → Result ℕ JsonFault
in_range negative most least n =
    if nat_le n (if negative then least else most) then Ok (signed_bits negative n)
    else Err faults.OutOfRange

-- The whole number that a text is, in two's complement, if it is from minus `least` to `most`. It
-- may have a point and an exponent. (Protocol Buffers, "ProtoJSON Format")
unfoldable pub whole : List ℕ → ℕ → ℕ → Result ℕ JsonFault
whole text most least =
    let parts = scan (unsigned text) in
    if is_number text then
    (if is_whole parts then in_range (is_negative text) most least (whole_of parts)
    else Err faults.OutOfRange)
    else Err faults.BadNumber

-- the bits of a double that isn't too large
abbrev pub finite_bits : Option Float → Result ℕ JsonFault
finite_bits None = Err faults.BadNumber
finite_bits (Some x) =
    if float_is_finite x then Ok (to_bits binary64 x) else Err faults.OutOfRange

-- the bits of the double that is nearest to the number that a text is
unfoldable pub double : List ℕ → Result ℕ JsonFault
double text =
    if is_number text then finite_bits (parse_float binary64 text) else Err faults.BadNumber

-- the bits of what JSON has no number for
abbrev pub nan_bits : ℕ
nan_bits = 0x7ff8_0000_0000_0000

abbrev pub infinity_bits : ℕ
infinity_bits = 0x7ff0_0000_0000_0000

abbrev pub minus_infinity_bits : ℕ
minus_infinity_bits = 0xfff0_0000_0000_0000

-- the same of a text in quotes, which may also name what JSON has no number for
unfoldable pub quoted_double : List ℕ → Result ℕ JsonFault
unfolding double
quoted_double text =
    if bytes_eq text (codes "NaN") then Ok nan_bits
    else if bytes_eq text (codes "Infinity") then Ok infinity_bits
    else if bytes_eq text (codes "-Infinity") then Ok minus_infinity_bits
    else double text
