-- What fields say of lengths and of waits.
use Rattle.std.proofs.Common.{◌≡◌, ℕ, ◌<◌, ◌^◌, Bool, true, false, ◌&&◌, cond, List, [], ◌∷◌}
use Rattle.std.proofs.Common.{length, map, refl, sym, ap, ◌∙◌, bytes_eq, Option, Some, None, Result}
use Rattle.std.proofs.Common.{Ok, Err, arith, inl, inr, rules}
use Rattle.std.specs.Prelude.{nat_lt}
use Rattle.std.proofs.Math.Dec.{leb}
use Rattle.std.proofs.lemmas.Bool.{cases_Bool, false≢true, leb-true, lt-ltb, ltb-true}
use Rattle.std.specs.List.{list_all}
use Rattle.std.specs.Result.{result_ok, OkIff}
use Rattle.std.specs.Char.{is_ascii_digit}
use Rattle.std.specs.Str.{all_ascii_digits, IsAscii, IsUtf8}
use Rattle.std.proofs.lemmas.Str.{IsUtf8-from_ascii}
use Rattle.std.proofs.lemmas.Str.Ascii.{IsAscii-nil, IsAscii-cons}
use Rattle.std.specs.Str.Parse.{digits_value, digits_value_after, ParsesUnsigned}
use Rattle.std.proofs.lemmas.Str.Parse.{IsNumeralModel, numerals_by_fold, tells_all_ascii_digits}
use Rattle.std.proofs.lemmas.Str.Parse.{parse_digits}
use Rattle.http_header.specs.FieldValue.{FieldValue}
use Rattle.http_wire.specs.declared.fault.HttpFault.{HttpFault}
use Rattle.http_wire.specs.declared.fault.HttpFault.TheVariants.{BadLength}
use Rattle.http_wire.specs.Fields.{is_digits, is_length, content_length}

all_map : (value : List ℕ) (vs : List FieldValue)
    → list_all (bytes_eq value) (map (λ v. v.bytes) vs) ≡ list_all (λ v. bytes_eq value v.bytes) vs
all_map value [] = refl
all_map value (v ∷ vs) = ap (λ t. bytes_eq value v.bytes && t) (all_map value vs)

-- The length is that of the first value, if all others are equal to it and it is a length.
pub length_of : (values : List FieldValue) (v : FieldValue) (vs : List FieldValue) (same : Bool)
    → values ≡ v ∷ vs
    → same ≡ list_all (λ w. bytes_eq v.bytes w.bytes) vs
    → content_length (map (λ w. w.bytes) values)
    ≡ cond (same && is_length v.bytes) (Ok (Some (digits_value 10 v.bytes))) (Err BadLength)
length_of values v vs same is all =
    ap (λ l. content_length (map (λ w. w.bytes) l)) is
    ∙ ap (λ t. cond (t && is_length v.bytes) (Ok (Some (digits_value 10 v.bytes))) (Err BadLength))
    (all_map v.bytes vs ∙ sym all)

-- The number that was read is the length.
pub length_some : (b : Bool) (n d : ℕ) → Some n ≡ cond b (Some d) None
    → ◌≡◌ {A = Result (Option ℕ) HttpFault} (Ok (Some n)) (cond b (Ok (Some d)) (Err BadLength))
length_some true n d is = ap Ok is
length_some false n d is = absurd cc

-- The value of digits is the number that a parse of them gives.
own : IsNumeralModel (λ ds. all_ascii_digits ds ≡ true) (digits_value 10)
own = numerals_by_fold _ tells_all_ascii_digits (digits_value_after 10) (search rules)

-- Where a conjunction is true, both its parts are true.
both : (a b : Bool) → (a && b) ≡ true → (a ≡ true) × (b ≡ true)
both true b e = (refl, e)
both false b e = absurd (false≢true e)

-- Digits are ASCII.
digits_ascii : (text : List ℕ) → list_all is_ascii_digit text ≡ true → IsAscii text
digits_ascii [] all = IsAscii-nil
digits_ascii (b ∷ text) all =
    let parts = both (is_ascii_digit b) (list_all is_ascii_digit text) all in
    let digit = both (leb 48 b) (leb b 57) parts.0 in
    IsAscii-cons b text (omega (arith, leb-true b 57 digit.1)) (digits_ascii text parts.1)

-- Digits are UTF-8.
pub digits_text : (text : List ℕ) → is_digits text ≡ true → IsUtf8 text
digits_text text digits =
    IsUtf8-from_ascii text (digits_ascii text (both (nat_lt 0 (length text)) _ digits).1)

-- The digits of a length are the digits that a parse takes.
digits_all : (text : List ℕ) → list_all is_ascii_digit text ≡ all_ascii_digits text
digits_all [] = refl
digits_all (b ∷ text) = ap (λ t. is_ascii_digit b && t) (digits_all text)

-- A parse gives the number of the digits where it fits 64 bits, and else none.
length_fits : {E : Type 0} (text : List ℕ) (r : Result ℕ E) → is_digits text ≡ true
    → OkIff r ((0 < length text) × (digits_value 10 text < 2 ^ 64)) (digits_value 10 text)
    → result_ok r ≡ cond (is_length text) (Some (digits_value 10 text)) None
length_fits text (Ok n) digits parsed =
    rw digits (rw (lt-ltb (digits_value 10 text) (2 ^ 64) parsed.0.1) (ap Some parsed.1))
length_fits text (Err e) digits parsed =
    let some = ltb-true 0 (length text) (both (nat_lt 0 (length text)) _ digits).0 in
    elim (cases_Bool (nat_lt (digits_value 10 text) (2 ^ 64))) [
      | inl fits ↦ absurd (parsed (some, ltb-true (digits_value 10 text) (2 ^ 64) fits))
      | inr over ↦ rw digits (rw over refl)
    ]

-- A parse of digits gives their number where it is a length, and else none.
pub length_parsed : {E : Type 0} (text : List ℕ) (r : Result ℕ E) → is_digits text ≡ true
    → ParsesUnsigned 64 10 text r
    → result_ok r ≡ cond (is_length text) (Some (digits_value 10 text)) None
length_parsed text r digits parses =
    let all = sym (digits_all text) ∙ (both (nat_lt 0 (length text)) _ digits).1 in
    length_fits text r digits (parse_digits own 64 text r parses all)
