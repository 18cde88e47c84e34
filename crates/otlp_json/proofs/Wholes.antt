-- Whole texts.
use Rattle.std.proofs.Common.{◌≡◌, ℕ, List, [], Bool, true, false, refl, ap, ◌∙◌, Err}
use Rattle.std.specs.Str.{IsUtf8, is_utf8}
use Rattle.std.proofs.lemmas.Str.{IsUtf8-from_is_utf8, is_utf8-from_IsUtf8}
use Rattle.json.specs.Token.{Token}
use Rattle.json.specs.Lex.{tokens}
use Rattle.otlp_json.specs.Bodies.{body_bytes, bytes_after, whole, request_fields}
use Rattle.otlp_json.specs.declared.fault.JsonFault.TheVariants as faults

-- What a text means that is UTF-8.
pub text_bytes : (text same out : List ℕ) (ts : List Token) → same ≡ text → ts ≡ tokens same
    → out ≡ [] → IsUtf8 text → body_bytes text ≡ bytes_after out (whole ts)
unfolding request_fields
text_bytes text same out ts e t o u =
    let read : ts ≡ tokens text = t ∙ ap tokens e in
    rw (is_utf8-from_IsUtf8 text u, read, o) refl

not_utf8 : (text : List ℕ) → (IsUtf8 text → ⊥) → (b : Bool) → is_utf8 text ≡ b
    → is_utf8 text ≡ false
not_utf8 text h true e = absurd (h (IsUtf8-from_is_utf8 text e))
not_utf8 text h false e = e

-- Bytes that aren't UTF-8 are no text.
pub no_text : (text : List ℕ) → (IsUtf8 text → ⊥) → body_bytes text ≡ Err faults.NotUtf8
unfolding request_fields
no_text text h = rw (not_utf8 text h (is_utf8 text) refl) refl
