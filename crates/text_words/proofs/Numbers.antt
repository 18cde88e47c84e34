-- What a word of decimal digits is read as.
use Rattle.std.proofs.Common.{◌≡◌, ℕ, ◌^◌, ◌<◌, true, List, [], ◌∷◌, length, Some, Result, Ok, Err}
use Rattle.std.proofs.Common.{inl, inr, refl, ap, arith, rules, tests}
use Rattle.std.specs.Prelude.{◌&&◌}
use Rattle.std.specs.Char.{is_ascii_digit}
use Rattle.std.specs.Str.{IsUtf8, IsAscii, all_ascii_digits}
use Rattle.std.specs.Str.Parse.{ParsesUnsigned}
use Rattle.std.specs.List.{list_all}
use Rattle.std.specs.Result.{result_ok, OkIff}
use Rattle.std.proofs.lemmas.Bool.{and_parts, cases_lt, lt-ltb, le-ltb}
use Rattle.std.proofs.lemmas.Str.{IsUtf8-from_ascii}
use Rattle.std.proofs.lemmas.Str.Ascii.{IsAscii-nil, IsAscii-cons}
use Rattle.std.proofs.lemmas.Str.Parse.{IsNumeralModel, numerals_by_weight, tells_all_ascii_digits}
use Rattle.std.proofs.lemmas.Str.Parse.{parse_digits}
use Rattle.text_words.specs.Words.{decimal_value, number_below}

-- the value of digits, as `parse` has it
numerals : IsNumeralModel (λ ds. all_ascii_digits ds ≡ true) decimal_value
numerals = numerals_by_weight _ tells_all_ascii_digits decimal_value (search rules)

small_digit : (c : ℕ) → is_ascii_digit c ≡ true → c < 128
small_digit c h = search (rules, tests)

digits_are_ascii : (ds : List ℕ) → all_ascii_digits ds ≡ true → IsAscii ds
digits_are_ascii [] h = IsAscii-nil
digits_are_ascii (c ∷ cs) h =
    let p = and_parts (is_ascii_digit c) (all_ascii_digits cs) h in
    IsAscii-cons c cs (small_digit c p.0) (digits_are_ascii cs p.1)

-- Decimal digits are UTF-8.
pub digits_are_text : (w : List ℕ) → all_ascii_digits w ≡ true → IsUtf8 w
digits_are_text w d = IsUtf8-from_ascii w (digits_are_ascii w d)

by_cases : {E : Type 0} (w : List ℕ) (r : Result ℕ E)
    → OkIff r ((0 < length w) × (decimal_value w < 2 ^ 64)) (decimal_value w)
    → all_ascii_digits w ≡ true → result_ok r ≡ number_below (2 ^ 64) w
unfolding number_below
by_cases [] (Ok x) p d = absurd (omega (arith, p.0.0))
by_cases [] (Err e) p d = refl
by_cases (c ∷ cs) (Ok x) p d = rw (d, lt-ltb (decimal_value (c ∷ cs)) (2 ^ 64) p.0.1) (ap Some p.1)
by_cases (c ∷ cs) (Err e) p d =
    elim (cases_lt (decimal_value (c ∷ cs)) (2 ^ 64)) [
      | inl below ↦ absurd (p (omega arith, below))
      | inr above ↦ rw (d, le-ltb (decimal_value (c ∷ cs)) (2 ^ 64) above) refl
    ]

-- `parse` gives of decimal digits the number that they write, where 64 bits hold it.
pub number_parsed : {E : Type 0} (w : List ℕ) (r : Result ℕ E) → ParsesUnsigned 64 10 w r
    → all_ascii_digits w ≡ true → result_ok r ≡ number_below (2 ^ 64) w
number_parsed w r h d = by_cases w r (parse_digits numerals 64 w r h d) d

-- A test of each byte for being a digit is the test of all bytes together.
pub all_digits : (w : List ℕ) → list_all is_ascii_digit w ≡ all_ascii_digits w
all_digits [] = refl
all_digits (c ∷ cs) = ap (λ b. is_ascii_digit c && b) (all_digits cs)
