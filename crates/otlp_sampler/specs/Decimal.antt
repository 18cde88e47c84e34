-- The ratio that a decimal text writes, as a fraction. The text is a mantissa and then, if there is
-- one, an exponent: MANTISSA [e|E [+|-] DIGITS]. (OpenTelemetry Environment Variable
-- Specification, OTEL_TRACES_SAMPLER_ARG: a number in [0..1]; the form: profile)
use Rattle.std.specs.Prelude.{ℕ, ◌^◌, ◌*◌, ◌==◌, Bool, ◌&&◌, ◌||◌, true, if◌then◌else◌}
use Rattle.std.specs.Prelude.{List, ◌++◌, drop, length, nat_lt, slice_index}
use Rattle.std.specs.List.{list_all, before_first, after_first, position_or_len}
use Rattle.std.specs.Char.{is_ascii_digit}
use Rattle.std.specs.Str.Parse.{digits_value}

-- ---- the mantissa

-- `.` is character 46
abbrev pub is_point : ℕ → Bool
is_point c = c == 46

-- what is before the first point: all, if there is none
abbrev pub whole_part : List ℕ → List ℕ
whole_part mantissa = before_first is_point mantissa

-- what is after it
abbrev pub fraction_part : List ℕ → List ℕ
fraction_part mantissa = after_first is_point mantissa

-- the mantissa without its first point
abbrev pub digits : List ℕ → List ℕ
digits mantissa = whole_part mantissa ++ fraction_part mantissa

-- decimal digits, one or more
abbrev pub are_digits : List ℕ → Bool
are_digits text = nat_lt 0 (length text) && list_all is_ascii_digit text

-- ---- the exponent

-- `e` is character 101, and `E` is 69
abbrev pub is_exponent_mark : ℕ → Bool
is_exponent_mark c = c == 101 || c == 69

-- what is before the first mark of an exponent: all, if there is none
abbrev pub mantissa_part : List ℕ → List ℕ
mantissa_part text = before_first is_exponent_mark text

-- whether there is such a mark
abbrev pub has_exponent : List ℕ → Bool
has_exponent text = nat_lt (position_or_len is_exponent_mark text) (length text)

-- what is after it
abbrev pub exponent_part : List ℕ → List ℕ
exponent_part text = after_first is_exponent_mark text

-- `-` is character 45
abbrev pub is_negative : List ℕ → Bool
is_negative exponent = slice_index exponent 0 == 45

-- `+` is character 43
abbrev pub has_plus : List ℕ → Bool
has_plus exponent = slice_index exponent 0 == 43

-- the exponent without its sign, if it has one
abbrev pub unsigned : List ℕ → List ℕ
unsigned exponent = if is_negative exponent || has_plus exponent then drop 1 exponent else exponent

-- by how many places a positive exponent moves the point to the right ..
abbrev pub places_right : List ℕ → ℕ
places_right exponent = if is_negative exponent then 0 else digits_value 10 (unsigned exponent)

-- .. and a negative one to the left
abbrev pub places_left : List ℕ → ℕ
places_left exponent = if is_negative exponent then digits_value 10 (unsigned exponent) else 0

-- no exponent, or one of decimal digits, with at most one sign before them
abbrev pub is_exponent : List ℕ → Bool
is_exponent text = if has_exponent text then are_digits (unsigned (exponent_part text)) else true

-- ---- the number

-- a mantissa of decimal digits, one or more, with at most one point before, among or after them;
-- then the exponent, if there is one
abbrev pub is_decimal : List ℕ → Bool
is_decimal text = are_digits (digits (mantissa_part text)) && is_exponent text

-- the number is what the mantissa's digits write without the point, times ten to the exponent ..
abbrev pub numerator : List ℕ → ℕ
numerator text =
    digits_value 10 (digits (mantissa_part text)) * 10 ^ places_right (exponent_part text)

-- .. divided by ten for each digit after the point
abbrev pub denominator : List ℕ → ℕ
denominator text =
    10 ^ length (fraction_part (mantissa_part text)) * 10 ^ places_left (exponent_part text)
