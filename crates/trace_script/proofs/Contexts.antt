-- How an identifier is read.
use Rattle.std.proofs.Common.{◌≡◌, ℕ, ◌<◌, ◌*◌, true, List, length, None, Result, Ok, Err, refl}
use Rattle.std.proofs.Common.{rules, tests}
use Rattle.std.specs.Prelude.{◌↔◌, IfOk, IsOk}
use Rattle.std.specs.List.{AllPass}
use Rattle.std.specs.Result.{result_ok, result_or}
use Rattle.std.specs.Str.{IsUtf8}
use Rattle.std.proofs.lemmas.Str.{IsUtf8-from_ascii}
use Rattle.std.proofs.lemmas.Str.Ascii.{IsAscii-from_all}
use Rattle.hex.specs.Hex.{decode_of, decode_sized, is_hex_digit}
use Rattle.hex.proofs.HexLemmas.{decode_sized-twice, IsOk-decode_sized}
use Rattle.text_words.specs.Words.{Gives, hex_bytes}
use Rattle.text_words.specs.declared.WordFault.{WordFault}
use Rattle.text_words.specs.declared.WordFault.TheVariants.{Bad}

small_digit : (c : ℕ) → is_hex_digit c ≡ true → c < 128
small_digit c h = search (rules, tests)

nothing_there : {X E : Type 0} (r : Result X E) → (IsOk r → ⊥) → result_ok r ≡ None
nothing_there (Ok x) h = absurd (h refl)
nothing_there (Err e) h = refl

-- Bytes that aren't UTF-8 are no hexadecimal digits.
pub no_digits : (count : ℕ) (word : List ℕ) → (IsUtf8 word → ⊥) → hex_bytes count word ≡ None
unfolding hex_bytes
no_digits count word h = nothing_there (decode_sized word count) (λ ok.
    let digits = ((IsOk-decode_sized word count).0 ok).1 in
    h (IsUtf8-from_ascii word
    (IsAscii-from_all word (λ k d within. small_digit _ (digits k d within)))))

-- An identifier is read exactly from a word of the right number of hexadecimal digits.
pub digits_read : {X E : Type 0} (bytes : X → List ℕ) (count : ℕ) (word : List ℕ) (r : Result X E)
    (q : Result X WordFault)
    → IfOk r (λ id. decode_of word ≡ Ok (bytes id))
    → (IsOk r ↔ ((length word ≡ 2 * count) × AllPass is_hex_digit word))
    → q ≡ result_or r (Err Bad) → Gives bytes q (hex_bytes count word)
unfolding hex_bytes
digits_read bytes count word (Ok id) q value ok same =
    rw (same, decode_sized-twice word count ((ok.0 refl).0), value) refl
digits_read bytes count word (Err e) q value ok same =
    rw same
    (nothing_there (decode_sized word count)
    (λ h. let wrong = ok.1 ((IsOk-decode_sized word count).0 h) in cc))
