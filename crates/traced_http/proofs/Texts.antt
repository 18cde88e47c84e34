-- Bytes that are text, and bytes that aren't.
use Rattle.std.proofs.lemmas.Bool.{cases_Bool}
use Rattle.std.proofs.Common.{inl, inr, ◌≡◌, ℕ, List, refl, Some, None}
use Rattle.std.specs.Str.{IsUtf8, is_utf8}
use Rattle.std.proofs.lemmas.Str.{IsUtf8-from_is_utf8, is_utf8-from_IsUtf8}
use Rattle.traced_http.specs.Attributes.{text_of}

-- Bytes that are UTF-8 are the text of an attribute.
pub of_text : (bs : List ℕ) → IsUtf8 bs → Some bs ≡ text_of bs
unfolding text_of
of_text bs h = rw (is_utf8-from_IsUtf8 bs h) refl

-- Bytes that aren't UTF-8 are no text of an attribute.
pub of_no_text : (bs : List ℕ) → (IsUtf8 bs → ⊥) → None ≡ text_of bs
unfolding text_of
of_no_text bs h = elim (cases_Bool (is_utf8 bs)) [
  | inl is ↦ absurd (h (IsUtf8-from_is_utf8 bs is))
  | inr not_text ↦ rw not_text refl
]
