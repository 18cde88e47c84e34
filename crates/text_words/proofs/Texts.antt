-- How a word spells bytes.
use Rattle.std.proofs.lemmas.Bool.{cases_Bool}
use Rattle.std.proofs.Common.{inl, inr, eqb, ◌≡◌, ℕ, ◌<◌, List, [], ◌∷◌, ◌++◌, length, get_or}
use Rattle.std.proofs.Common.{Option, Some, None, refl, sym, ap, ◌∙◌, arith, append-nil}
use Rattle.std.specs.Prelude.{option_map, option_and_then, String, string_bytes}
use Rattle.std.specs.Str.{IsUtf8, is_utf8}
use Rattle.std.proofs.lemmas.Str.{IsUtf8-string_bytes, IsUtf8-from_is_utf8, is_utf8-from_IsUtf8}
use Rattle.std.specs.Result.{result_ok}
use Rattle.hex.specs.Hex.{decode_sized, decode_pairs, hex_digit_value}
use Rattle.text_words.specs.Words.{hex_byte, bytes_of, first_byte_of, in_front, utf8_of}
use Rattle.text_words.proofs.Each.{appended, one_more}

pairs_of : (high low : ℕ) (h l : Option ℕ) → hex_digit_value high ≡ h → hex_digit_value low ≡ l
    → result_ok (decode_pairs 0 (high ∷ low ∷ [])) ≡ option_map (λ b. b ∷ []) (hex_byte high low)
unfolding decode_pairs
pairs_of high low (Some h) (Some l) p q = rw (p, q) refl
pairs_of high low (Some h) None p q = rw (p, q) refl
pairs_of high low None l p q = rw p refl

-- Two hexadecimal digits decode to the byte that they write.
pub pair_decoded : (high low : ℕ)
    → result_ok (decode_sized (high ∷ low ∷ []) 1) ≡ option_map (λ b. b ∷ []) (hex_byte high low)
pair_decoded high low = pairs_of high low (hex_digit_value high) (hex_digit_value low) refl refl

-- A list of one byte is missing only where the byte is.
pub no_byte : (o : Option ℕ) → option_map (λ b. b ∷ []) o ≡ None → o ≡ None
no_byte None e = refl
no_byte (Some b) e = cc

-- The byte of a list of one byte is the first one in it.
pub one_byte : (o : Option ℕ) (bs : List ℕ) → option_map (λ b. b ∷ []) o ≡ Some bs
    → Some (get_or bs 0 0) ≡ o
one_byte None bs e = cc
one_byte (Some b) bs e = let h : b ∷ [] ≡ bs = cc in rw (← h) refl

-- ---- the loop over a word

-- a byte in front of what the rest of a word spells
abbrev pub first_and_rest : ℕ × List ℕ → Option (List ℕ)
first_and_rest (b, rest) = in_front (Some b) (bytes_of rest)

escaped : (o : Option ℕ) (rest : List ℕ)
    → in_front o (bytes_of rest) ≡ option_and_then first_and_rest (option_map (λ b. (b, rest)) o)
escaped None rest = refl
escaped (Some b) rest = refl

-- A word that isn't empty begins with the spelling of a byte, or spells nothing.
pub begins : (c : ℕ) (cs : List ℕ)
    → bytes_of (c ∷ cs) ≡ option_and_then first_and_rest (first_byte_of (c ∷ cs))
unfolding bytes_of
begins c [] = elim (cases_Bool (eqb c 37)) [ inl e ↦ rw e refl | inr e ↦ rw e refl ]
begins c (d ∷ []) = elim (cases_Bool (eqb c 37)) [ inl e ↦ rw e refl | inr e ↦ rw e refl ]
begins c (d ∷ e ∷ rest) =
    elim (cases_Bool (eqb c 37)) [ inl h ↦ rw h (escaped (hex_byte d e) rest) | inr h ↦ rw h refl ]

-- After one more byte, the rest of the word spells the rest of the same text.
pub goes_on : (front w rest : List ℕ) (b : ℕ) (whole : Option (List ℕ))
    → first_byte_of w ≡ Some (b, rest) → appended front (bytes_of w) ≡ whole
    → appended (front ++ b ∷ []) (bytes_of rest) ≡ whole
goes_on front [] rest b whole first so_far = cc
goes_on front (c ∷ cs) rest b whole first so_far =
    one_more front b (bytes_of rest)
    ∙ ap (λ o. appended front (option_and_then first_and_rest o)) (sym first)
    ∙ ap (appended front) (sym (begins c cs)) ∙ so_far

-- A word that spells no byte at some place spells nothing.
pub stops : (front w : List ℕ) (whole : Option (List ℕ)) → 0 < length w → first_byte_of w ≡ None
    → appended front (bytes_of w) ≡ whole → whole ≡ None
stops front [] whole some first so_far = absurd (omega arith)
stops front (c ∷ cs) whole some first so_far =
    sym so_far ∙ ap (appended front) (begins c cs ∙ ap (option_and_then first_and_rest) first)

-- Once no byte of the word is left, the bytes so far are what the word spells.
pub is_done : (front w : List ℕ) (whole : Option (List ℕ)) → length w ≡ 0
    → appended front (bytes_of w) ≡ whole → whole ≡ Some front
unfolding bytes_of
is_done front [] whole empty so_far = sym so_far ∙ ap Some (append-nil front)
is_done front (c ∷ cs) whole empty so_far = absurd (omega arith)

-- ---- UTF-8

-- The bytes of a `String` are UTF-8.
pub of_text : {A : Type 0} (t : String A) → Some (string_bytes t) ≡ utf8_of (string_bytes t)
of_text t = rw (is_utf8-from_IsUtf8 (string_bytes t) (IsUtf8-string_bytes t)) refl

-- Bytes that aren't UTF-8 are no text.
pub of_no_text : (bs : List ℕ) → (IsUtf8 bs → ⊥) → None ≡ utf8_of bs
of_no_text bs h = elim (cases_Bool (is_utf8 bs)) [
  | inl is ↦ absurd (h (IsUtf8-from_is_utf8 bs is))
  | inr not_text ↦ rw not_text refl
]
