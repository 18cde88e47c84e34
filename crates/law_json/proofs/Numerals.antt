-- What whole numbers and doubles mean that are written in JSON.
use Rattle.std.proofs.Common.{◌≡◌, refl, sym, ap, ap₂, ◌∙◌, ℕ, ℤ, pos, negsuc, zero, suc, ◌<◌, ◌≤◌}
use Rattle.std.proofs.Common.{◌+◌, ◌-◌, ◌*◌, ◌^◌, Bool, true, false, List, [], ◌∷◌, append-nil}
use Rattle.std.proofs.Common.{length, take, drop, arith, Ok, Err, decimal, ◌==◌}
use Rattle.std.proofs.Common.{if◌then◌else◌}
use Rattle.std.specs.Prelude.{Result}
use Rattle.std.specs.Int.{w64, cast_unsigned}
use Rattle.std.specs.Fmt.{signed_decimal}
use Rattle.std.specs.Str.Parse.{AllDigits, digits_value}
use Rattle.std.proofs.lemmas.Bool.{le-leb, ne_eqb}
use Rattle.std.proofs.lemmas.List.{drop_all}
use Rattle.std.proofs.lemmas.Fmt.{decimal_is_IsNumeral}
use Rattle.std.proofs.lemmas.Str.Parse.{digit_from_value}
use Rattle.fast_float.specs.Text.{Parts, scan, whole_of}
use Rattle.fast_float.proofs.Writing.{scan-text_of}
use Rattle.json.specs.Print.{IsNumber}
use Rattle.json.proofs.Printed.Decimals.{IsNumber-decimal, IsNumber-signed_decimal}
use Rattle.otlp_json.specs.Numbers.{whole, is_whole, is_negative, unsigned, in_range}
use Rattle.otlp_json.specs.Numbers.{signed_bits, is_at_end}
use Rattle.otlp_json.specs.declared.fault.JsonFault.{JsonFault}
use Rattle.otlp_json.specs.declared.fault.JsonFault.TheVariants as faults
use lib.Signed.{mag}

-- the parts of a text of digits alone
abbrev digit_parts : List ℕ → Parts
digit_parts ds = record {
  whole = ds;
  point = false;
  fraction = [];
  exponent_negative = false;
  exponent = [];
  len = length ds;
}

scan_digits : (ds : List ℕ) → AllDigits 10 ds → scan ds ≡ digit_parts ds
scan_digits ds h =
    ap scan (sym (append-nil ds))
    ∙ scan-text_of (digit_parts ds) (record {
      whole_digits = h;
      fraction_digits = tt;
      exponent_digits = tt;
      no_point = λ _. refl;
      no_exponent = λ _. refl;
      len_is = ap length (sym (append-nil ds));
    })

nothing_after : (ds : List ℕ) → is_whole (digit_parts ds) ≡ true
nothing_after ds =
    ap (λ l. digits_value 10 l == 0)
    (ap (drop (length ds + 0)) (append-nil ds) ∙ drop_all (length ds + 0) ds (omega arith))

take_whole : (ds : List ℕ) (n : ℕ) → n ≡ length ds → take n ds ≡ ds
take_whole [] n e = rw e refl
take_whole (d ∷ ds) zero e = absurd (omega (arith, e))
take_whole (d ∷ ds) (suc n) e = ap (λ l. d ∷ l) (take_whole ds n (omega (arith, e)))

value_before : (ds : List ℕ) → whole_of (digit_parts ds) ≡ digits_value 10 ds
value_before ds =
    let all : length ds + 0 ≡ length ds = omega arith in
    let none : (length ds + 0) - length ds ≡ 0 = omega arith in
    let once : digits_value 10 ds * 10 ^ 0 ≡ digits_value 10 ds = omega arith in
    ap (λ l. digits_value 10 (take (length ds + 0) l) * 10 ^ ((length ds + 0) - length l))
    (append-nil ds)
    ∙ ap₂ (λ l k. digits_value 10 l * 10 ^ k) (take_whole ds (length ds + 0) all) none ∙ once

abbrev outcome : Bool → Bool → Bool → ℕ → ℕ → ℕ → Result ℕ JsonFault
outcome number whole negative most least n =
    if number then
    (if whole then in_range negative most least n else Err faults.OutOfRange)
    else Err faults.BadNumber

whole_digits : (negative : Bool) (text ds : List ℕ) (n most least : ℕ) → IsNumber text
    → unsigned text ≡ ds → is_negative text ≡ negative → AllDigits 10 ds → digits_value 10 ds ≡ n
    → n ≤ (if negative then least else most) → whole text most least ≡ Ok (signed_bits negative n)
unfolding whole
whole_digits negative text ds n most least number bare sign h value within =
    let p = scan (unsigned text) in
    ap (λ r. outcome (is_at_end r) (is_whole p) (is_negative text) most least (whole_of p)) number
    ∙ ap (λ q. outcome true (is_whole q) (is_negative text) most least (whole_of q))
    (ap scan bare ∙ scan_digits ds h)
    ∙ ap (λ b. outcome true b (is_negative text) most least (whole_of (digit_parts ds)))
    (nothing_after ds)
    ∙ ap₂ (λ b k. in_range b most least k) sign (value_before ds ∙ value)
    ∙ ap (λ b. if b then Ok (signed_bits negative n) else Err faults.OutOfRange)
    (le-leb n (if negative then least else most) within)

bare_digits : (ds : List ℕ) → AllDigits 10 ds → (unsigned ds ≡ ds) × (is_negative ds ≡ false)
bare_digits [] h = (refl, refl)
bare_digits (d ∷ ds) h =
    let no : (d == 45) ≡ false = ne_eqb d 45 (λ e. omega (arith, digit_from_value d h.0)) in
    (ap (λ b. if b then ds else d ∷ ds) no, no)

-- The decimal of a number means the number.
pub whole_decimal : (n most least : ℕ) → n < 2 ^ 64 → n ≤ most
    → whole (decimal n) most least ≡ Ok n
whole_decimal n most least small within =
    let is = decimal_is_IsNumeral n small in let bare = bare_digits (decimal n) is.0.1 in
    whole_digits false (decimal n) (decimal n) n most least (IsNumber-decimal n small) bare.0 bare.1
    is.0.1 is.1 within

-- The decimal of a number with a sign means its bits.
pub whole_signed : (z : ℤ) (most least : ℕ) → mag z < 2 ^ 63 → mag z ≤ most → mag z < least
    → whole (signed_decimal z) most least ≡ Ok (cast_unsigned w64 z)
whole_signed (pos n) most least small within below =
    whole_decimal n most least (omega (arith, small)) within
whole_signed (negsuc n) most least small within below =
    let is = decimal_is_IsNumeral (suc n) (omega (arith, small)) in
    whole_digits true (45 ∷ decimal (suc n)) (decimal (suc n)) (suc n) most least
    (IsNumber-signed_decimal (negsuc n) small) refl refl is.0.1 is.1 (omega (arith, below))
    ∙ ap (λ b. Ok (if b then 0 else 2 ^ 64 - suc n)) (ne_eqb (suc n) 0 (λ e. omega (arith, e)))
