-- How far a text is written.
use Rattle.std.proofs.Common.{◌≡◌, ℕ, List, [], ◌∷◌, ◌++◌, refl, sym, ◌∙◌, ap, take, length}
use Rattle.std.proofs.Common.{append_assoc, encode_utf8_all, append-nil, arith}
use Rattle.std.specs.Prelude.{encode_utf8, Result, Ok, Err, IsErr, MatchResult}
use Rattle.std.specs.Str.{chars, IsUtf8}
use Rattle.std.proofs.lemmas.Str.{chars-encodes, encode_same, encodes-append, length-encode}
use Rattle.std.proofs.lemmas.Str.{len_utf8_bounds}
use Rattle.std.proofs.lemmas.List.{length-append}
use Rattle.std.proofs.Math.Seq.{take-append_seam}
use Rattle.std.proofs.lemmas.Grind.{flat_map-append}
use Rattle.page_text.specs.Written.{char_markup, text_markup}

-- the characters that are left of a text, which these bytes spell
pub record AreLeft (text yielded rest : List ℕ) : Type 0 where
  pub left : List ℕ
  pub spelled : encode_utf8_all left ≡ rest
  pub all : yielded ++ left ≡ chars text

-- the characters of a text spell it
chars_spell : (text : List ℕ) → IsUtf8 text → encode_utf8_all (chars text) ≡ text
chars_spell text h = ap encode_utf8_all (ap chars (sym h.1.1) ∙ chars-encodes h.0 h.1.0) ∙ h.1.1

-- Before the first character is yielded, all characters of a text are left.
pub all_left : (text rest : List ℕ) → IsUtf8 text → rest ≡ text → AreLeft text [] rest
all_left text rest h e =
    record { left = chars text; spelled = chars_spell text h ∙ sym e; all = refl }

-- a character has bytes
spells_some : (c : ℕ) (rest : List ℕ) → encode_utf8 c ++ rest ≡ [] → ⊥
spells_some c rest e =
    omega
    (arith, ap length e, length-append (encode_utf8 c) rest, length-encode c, (len_utf8_bounds c).0)

-- one more was yielded
next_left : (text yielded left rest after : List ℕ) (c : ℕ) → encode_utf8_all left ≡ rest
    → yielded ++ left ≡ chars text
    → rest ≡ encode_utf8 c ++ after → AreLeft text (yielded ++ c ∷ []) after
next_left text yielded [] rest after c spelled all e =
    absurd (spells_some c after (sym e ∙ sym spelled))
next_left text yielded (d ∷ left) rest after c spelled all e =
    let same = encode_same d c (encode_utf8_all left) after (spelled ∙ e) in
    record {
      left = left;
      spelled = same.1;
      all = append_assoc yielded (c ∷ []) left ∙ ap (λ x. yielded ++ x ∷ left) (sym same.0) ∙ all;
    }

-- After one more character is yielded, the bytes after it spell the characters that are left.
pub one_left : (text yielded rest after : List ℕ) (c : ℕ) → AreLeft text yielded rest
    → rest ≡ encode_utf8 c ++ after
    → AreLeft text (yielded ++ c ∷ []) after
one_left text yielded rest after c h e =
    next_left text yielded h.left rest after c h.spelled h.all e

-- none is left
none_left' : (text yielded left : List ℕ) → encode_utf8_all left ≡ [] → yielded ++ left ≡ chars text
    → yielded ≡ chars text
none_left' text yielded [] spelled all = sym (append-nil yielded) ∙ all
none_left' text yielded (d ∷ left) spelled all =
    absurd (spells_some d (encode_utf8_all left) spelled)

-- Once no byte is left, all characters of the text are yielded.
pub none_left : (text yielded rest : List ℕ) → AreLeft text yielded rest → rest ≡ []
    → yielded ≡ chars text
none_left text yielded rest h e = none_left' text yielded h.left (h.spelled ∙ e) h.all

-- The characters that were yielded are the front of the text.
pub front_yielded : (text yielded rest : List ℕ) → AreLeft text yielded rest
    → yielded ≡ take (length yielded) (chars text)
front_yielded text yielded rest h =
    sym (take-append_seam yielded h.left) ∙ ap (take (length yielded)) h.all

-- No character is left where no byte is.
pub no_bytes : (rest : List ℕ) → length rest ≡ 0 → rest ≡ []
no_bytes [] e = refl
no_bytes (b ∷ bs) e = absurd (omega (arith, e))

-- The markup of one more character is appended to that of the characters before it.
pub one_written : (before yielded : List ℕ) (c : ℕ)
    → (before ++ encode_utf8_all (text_markup yielded)) ++ encode_utf8_all (char_markup c)
    ≡ before ++ encode_utf8_all (text_markup (yielded ++ c ∷ []))
one_written before yielded c =
    append_assoc before (encode_utf8_all (text_markup yielded)) (encode_utf8_all (char_markup c))
    ∙ ap (λ x. before ++ x)
    (sym (encodes-append (text_markup yielded) (char_markup c))
    ∙ ap encode_utf8_all
    (ap (λ x. text_markup yielded ++ x) (sym (append-nil (char_markup c)))
    ∙ sym (flat_map-append char_markup yielded (c ∷ []))))

-- What holds in the case of an error holds where the result is one.
pub of_error : {T E Q : Type 0} (P : T → Type 0) (r : Result T E) → IsErr r → Q
    → MatchResult r P (λ _. Q)
of_error P (Ok x) h q = cc
of_error P (Err e) h q = q
