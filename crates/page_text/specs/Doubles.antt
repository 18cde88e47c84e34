-- The text of a double (IEEE 754, binary64; profile).
use Rattle.std.specs.Prelude.{ℕ, zero, suc, ◌+◌, ◌-◌, ◌*◌, ◌/◌, ◌%◌, ◌^◌, ◌==◌, nat_lt, nat_le}
use Rattle.std.specs.Prelude.{Bool, ◌&&◌, if◌then◌else◌, Option, Some, None, List, [], ◌++◌}
use Rattle.std.specs.Prelude.{codes, decimal}
use Rattle.std.specs.Int.{abs_diff}
use Rattle.page_text.specs.declared.decimal.Decimal.{Decimal}

-- ---- the parts of a double, of its 64 bits

-- 11 bits of an exponent, and 52 bits of a fraction
abbrev pub exponent_of : ℕ → ℕ
exponent_of bits = bits / 2 ^ 52 % 2048

abbrev pub fraction_of : ℕ → ℕ
fraction_of bits = bits % 2 ^ 52

-- its sign
abbrev pub is_negative : ℕ → Bool
is_negative bits = nat_le (2 ^ 63) bits

-- its mantissa, and its power: its size is the mantissa times two to the power less 1075
abbrev pub mantissa_of : ℕ → ℕ
mantissa_of bits =
    if exponent_of bits == 0 then fraction_of bits else 2 ^ 52 + fraction_of bits

abbrev pub power_of : ℕ → ℕ
power_of bits = if exponent_of bits == 0 then 1 else exponent_of bits

-- ---- the decimal of a mantissa divided by a power of two

-- the whole number nearest to ten times, a hundred times .. the size
abbrev pub nearest : ℕ → ℕ → ℕ → ℕ
nearest mantissa two ten = (mantissa * ten + two / 2) / two

-- how far that number is from the size times ten, a hundred .., as a multiple of 1 / two
abbrev pub distance : ℕ → ℕ → ℕ → ℕ
distance mantissa two ten = abs_diff (mantissa * ten) (nearest mantissa two ten * two)

-- what a decimal has to be nearer than: half of the gap to the next double, or a quarter of it
-- where the next smaller double is only half as far
abbrev pub parts_of_gap : ℕ → ℕ
parts_of_gap mantissa = if mantissa == 2 ^ 52 then 4 else 2

-- whether the decimal is so near to the double that no other double is as near
abbrev pub is_near : ℕ → ℕ → ℕ → Bool
is_near mantissa two ten =
    nat_lt (distance mantissa two ten) ten
    && nat_lt (parts_of_gap mantissa * distance mantissa two ten) ten

-- the first decimal that is near, of the one with this many places and those with up to n - 1 more
unfoldable pub decimal_from : ℕ → ℕ → ℕ → ℕ → ℕ → Option Decimal
decimal_from zero mantissa two ten places = None
decimal_from (suc n) mantissa two ten places =
    if is_near mantissa two ten
    then Some (record { number = nearest mantissa two ten; ten = ten; places = places })
    else decimal_from n mantissa two (ten * 10) (places + 1)

-- the near decimal with the fewest places, of at most 22
abbrev pub shortest : ℕ → ℕ → Option Decimal
shortest mantissa two = decimal_from 23 mantissa two 1 0

-- ---- the text

-- this many digits of a number below that power of ten
unfoldable pub digits_of : ℕ → ℕ → ℕ → List ℕ
digits_of zero ten rest = []
digits_of (suc n) ten rest =
    decimal (rest / (ten / 10)) ++ digits_of n (ten / 10) (rest % (ten / 10))

-- a decimal, with a point where it has places
unfoldable pub decimal_text : Decimal → List ℕ
decimal_text d =
    decimal (d.number / d.ten)
    ++ (if d.places == 0 then [] else codes "." ++ digits_of d.places d.ten (d.number % d.ten))

-- a mantissa, times a power of two, or divided by one
unfoldable pub times_text : ℕ → ℕ → List ℕ
times_text mantissa power = decimal mantissa ++ codes "*2^" ++ decimal power

unfoldable pub divided_text : ℕ → ℕ → List ℕ
divided_text mantissa power = decimal mantissa ++ codes "*2^-" ++ decimal power

abbrev pub shortest_text : ℕ → ℕ → Option Decimal → List ℕ
shortest_text mantissa power None = divided_text mantissa power
shortest_text mantissa power (Some d) = decimal_text d

-- a whole number of at most 128 bits by its digits
unfoldable pub large_text : ℕ → ℕ → List ℕ
large_text mantissa power =
    if nat_lt 75 power then times_text mantissa power else decimal (mantissa * 2 ^ power)

-- a number with a part after its point by the near decimal with the fewest places
unfoldable pub small_text : ℕ → ℕ → List ℕ
small_text mantissa power =
    if nat_lt 120 power then divided_text mantissa power
    else shortest_text mantissa power (shortest mantissa (2 ^ power))

unfoldable pub size_text : ℕ → ℕ → List ℕ
size_text mantissa power =
    if mantissa == 0 then codes "0"
    else (if nat_lt power 1075 then small_text mantissa (1075 - power)
    else large_text mantissa (power - 1075))

unfoldable pub sign_text : Bool → List ℕ
sign_text negative = if negative then codes "-" else []

-- the text of a double: its number, or what it is in place of one
unfoldable pub page_text : ℕ → List ℕ
page_text bits =
    if exponent_of bits == 2047 then
    (if fraction_of bits == 0 then sign_text (is_negative bits) ++ codes "Infinity"
    else codes "NaN")
    else sign_text (is_negative bits) ++ size_text (mantissa_of bits) (power_of bits)
