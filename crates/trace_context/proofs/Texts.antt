-- Bytes that are text, and bytes that aren't.
use Rattle.std.proofs.lemmas.Bool.{cases_Bool}
use Rattle.std.proofs.Common.{inl, inr, ◌≡◌, ℕ, List, [], refl, String, string_bytes}
use Rattle.std.specs.Str.{IsUtf8, is_utf8}
use Rattle.std.proofs.lemmas.Str.{IsUtf8-string_bytes, IsUtf8-from_is_utf8, is_utf8-from_IsUtf8}
use Rattle.trace_context.specs.Tracestate.{text_or_nothing}

-- The bytes of a `String` are a text.
pub of_text : {A : Type 0} (t : String A) → string_bytes t ≡ text_or_nothing (string_bytes t)
of_text t = rw (is_utf8-from_IsUtf8 (string_bytes t) (IsUtf8-string_bytes t)) refl

-- Bytes that aren't UTF-8 give an empty text.
pub of_no_text : (bs : List ℕ) → (IsUtf8 bs → ⊥) → [] ≡ text_or_nothing bs
of_no_text bs h = elim (cases_Bool (is_utf8 bs)) [
  | inl is ↦ absurd (h (IsUtf8-from_is_utf8 bs is))
  | inr not_text ↦ rw not_text refl
]
