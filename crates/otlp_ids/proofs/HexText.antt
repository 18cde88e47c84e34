-- When a text of the wanted length is hexadecimal.
use Rattle.std.proofs.Common.{◌≡◌, ◌*◌, ◌↔◌, ℕ, List, length, Result, Ok, Err, refl}
use Rattle.std.specs.Prelude.{IsOk}
use Rattle.std.specs.List.{AllPass}
use Rattle.std.specs.Result.{result_or}
use Rattle.hex.specs.Hex.{decode_sized, is_hex_digit}
use Rattle.hex.specs.declared.error.FromHexError.{FromHexError}
use Rattle.hex.proofs.HexLemmas.{IsOk-decode_sized}
use Rattle.otlp_ids.specs.declared.IdFault.{IdFault}
use Rattle.otlp_ids.specs.declared.IdFault.TheVariants.{BadDigit}

-- A text of twice the wanted length is decoded just where all its characters are digits.
pub IsOk-digits : (s : List ℕ) (n : ℕ) → length s ≡ 2 * n
    → IsOk (decode_sized s n) ↔ AllPass is_hex_digit s
IsOk-digits s n len =
    let both = IsOk-decode_sized s n in (λ ok. (both.0 ok).1, λ digits. both.1 (len, digits))

-- The result of decoding, with the fault `BadDigit` where the text can't be decoded.
abbrev pub or_bad_digit : Result (List ℕ) FromHexError → Result (List ℕ) IdFault
or_bad_digit r = result_or r (Err BadDigit)

-- The identifier is read in just the cases in which the text is decoded.
pub IsOk-or_bad_digit : {P : Type 0} (r : Result (List ℕ) FromHexError) → IsOk r ↔ P
    → IsOk (or_bad_digit r) ↔ P
IsOk-or_bad_digit (Ok x) both = (λ ok. both.0 refl, λ p. refl)
IsOk-or_bad_digit (Err e) both = (λ ok. cc ok, λ p. both.1 p)

-- The fault `BadDigit` is returned in just the cases in which the text isn't decoded.
pub bad_digit-or_bad_digit : {P : Type 0} (r : Result (List ℕ) FromHexError) → IsOk r ↔ P
    → (or_bad_digit r ≡ Err BadDigit) ↔ ¬ P
bad_digit-or_bad_digit (Ok x) both = (λ e. cc e, λ none. absurd (none (both.0 refl)))
bad_digit-or_bad_digit (Err e) both = (λ h p. let ok = both.1 p in cc ok, λ h. refl)
