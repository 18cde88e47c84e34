-- Whole numbers of any width as values of attributes.
use Rattle.std.specs.Prelude.{Bool, ◌^◌, nat_lt, ℤ, pos, negsuc, if◌then◌else◌}
use Rattle.std.specs.Fmt.{signed_decimal}
use Rattle.model_span.specs.Attributes.{Value, int, text}

-- the number fits 64 bits with a sign (opentelemetry-proto, common.proto: AnyValue.int_value)
abbrev pub fits_int : ℤ → Bool
fits_int (pos n) = nat_lt n (2 ^ 63)
fits_int (negsuc n) = nat_lt n (2 ^ 63)

-- A whole number is a number where it fits, else its decimal text. (profile)
abbrev pub whole_value : ℤ → Value
whole_value z = if fits_int z then int z else text (signed_decimal z)
