-- What a response means, by its row and the joined rows of its partial successes.
use Rattle.std.proofs.Common.{◌≡◌, refl, sym, ap, subst, ◌∙◌, ℕ, List, [], ◌∷◌, ◌++◌, Bool, true}
use Rattle.std.proofs.Common.{false, cond, append-nil, append_assoc, arith, length}
use Rattle.std.specs.Int.{w64, cast_signed}
use Rattle.std.specs.Str.{IsUtf8, is_utf8}
use Rattle.std.specs.List.{Contains}
use Rattle.std.proofs.lemmas.List.Elements.{Contains-append_left, Contains-append_right}
use Rattle.std.proofs.lemmas.List.Elements.{Contains-push}
use Rattle.std.proofs.lemmas.Str.{IsUtf8-from_is_utf8, is_utf8-from_IsUtf8}
use Rattle.model_message.specs.Reading.{Fault, bad_utf8, Reads}
use Rattle.model_message.specs.Wire.{row}
use Rattle.model_message.specs.Tables
use Rattle.model_message.specs.Tables.{◌▸◌, text}
use Rattle.model_message.specs.Messages.{meaning, read, utf8, payloads, last_bytes}
use Rattle.otlp_wire.specs.Response.{Counts, partial_row, row_faults, status}
use Rattle.otlp_wire.specs.declared.response.PartialFields.{PartialFields}

-- The value of a response is the number and the text that count in its partial success.
pub meaning-value : (body : List ℕ) (counted : PartialFields)
    → Counts counted (partial_row (row body).value).value →
    (meaning Tables.response body).value
    ≡ (cast_signed w64 counted.rejected_spans ▸ counted.error_message.now ▸ tt) ▸ tt
unfolding meaning read
meaning-value body counted h = rw (h.rejected_spans, h.error_message) refl

-- The faults of a response are those of its rows, and then the one of its text.
pub meaning-faults : (body : List ℕ)
    → (meaning Tables.response body).faults
    ≡ row_faults body
    ++ (utf8 (last_bytes (payloads 2 text (partial_row (row body).value).value))).faults
unfolding meaning read
meaning-faults body = simp (append-nil, append_assoc) refl

-- A fault of a row of the response is a fault of the response.
pub row-fault : (body : List ℕ) (fault : Fault) → Contains (row_faults body) fault
    → Contains (meaning Tables.response body).faults fault
row-fault body fault h =
    subst (λ l. Contains l fault) (sym (meaning-faults body))
    (Contains-append_left (row_faults body) _ fault h)

-- A list that contains a fault is not empty.
pub not-none : (faults : List Fault) (fault : Fault) → Contains faults fault → faults ≡ [] → ⊥
not-none faults fault h e =
    let none : length faults ≡ 0 = ap length e in let l = h.1 in absurd (omega (arith, none, l))

-- Where bytes are not UTF-8, the fault `bad_utf8` is among those of the text.
pub not-utf8 : (t : List ℕ) → (IsUtf8 t → ⊥) → (b : Bool) → is_utf8 t ≡ b
    → Contains (cond b [] (bad_utf8 ∷ [])) bad_utf8
not-utf8 t h true e = absurd (h (IsUtf8-from_is_utf8 t e))
not-utf8 t h false e = Contains-push [] bad_utf8

-- A message that isn't UTF-8 is a fault of the response.
pub text-fault : (body : List ℕ) (counted : PartialFields)
    → Counts counted (partial_row (row body).value).value → (IsUtf8 counted.error_message.now → ⊥)
    → Contains (meaning Tables.response body).faults bad_utf8
text-fault body counted c h =
    subst (λ l. Contains l bad_utf8) (sym (meaning-faults body))
    (Contains-append_right (row_faults body) _ bad_utf8
    (subst (λ t. Contains (utf8 t).faults bad_utf8) c.error_message
    (not-utf8 counted.error_message.now h (is_utf8 counted.error_message.now) refl)))

-- Where the rows have no fault and the text is UTF-8, the response has no fault.
pub no-fault : (body : List ℕ) (counted : PartialFields)
    → Counts counted (partial_row (row body).value).value → row_faults body ≡ []
    → IsUtf8 counted.error_message.now → (meaning Tables.response body).faults ≡ []
no-fault body counted c e h =
    meaning-faults body
    ∙ ap
    (λ l. l ++ (utf8 (last_bytes (payloads 2 text (partial_row (row body).value).value))).faults) e
    ∙ ap (λ t. (utf8 t).faults) (sym c.error_message)
    ∙ rw (is_utf8-from_IsUtf8 counted.error_message.now h) refl

-- Where the rows have no fault and the text is UTF-8, the response is read as the number and the
-- text that count.
pub is-read : (body : List ℕ) (counted : PartialFields) (message : List ℕ)
    → Counts counted (partial_row (row body).value).value → row_faults body ≡ []
    → IsUtf8 counted.error_message.now → message ≡ counted.error_message.now →
    Reads (meaning Tables.response body)
    ((cast_signed w64 counted.rejected_spans ▸ message ▸ tt) ▸ tt)
is-read body counted message c e h same = (
  no-fault body counted c e h,
  meaning-value body counted c
      ∙ ap (λ t. (cast_signed w64 counted.rejected_spans ▸ t ▸ tt) ▸ tt) (sym same),
)

-- ---- a Status

-- Where there are no fields, the number that counts is 0 and the text is empty.
pub counts-none : {counted : PartialFields} → counted.rejected_spans ≡ 0
    → counted.error_message.now ≡ [] → Counts counted []
unfolding payloads
counts-none zero none = record { rejected_spans = zero; error_message = none }

status-value : (body : List ℕ) (counted : PartialFields) → Counts counted (row body).value
    → (meaning status body).value ≡ counted.error_message.now ▸ tt
unfolding meaning read
status-value body counted h = rw (h.error_message) refl

status-faults : (body : List ℕ)
    → (meaning status body).faults
    ≡ (row body).faults ++ (utf8 (last_bytes (payloads 2 text (row body).value))).faults
unfolding meaning read
status-faults body = simp append-nil refl

-- A fault of the row of a Status is a fault of the Status.
pub status-row-fault : (body : List ℕ) (fault : Fault) → Contains (row body).faults fault
    → Contains (meaning status body).faults fault
status-row-fault body fault h =
    subst (λ l. Contains l fault) (sym (status-faults body))
    (Contains-append_left (row body).faults _ fault h)

-- A message of a Status that isn't UTF-8 is a fault of the Status.
pub status-text-fault : (body : List ℕ) (counted : PartialFields) → Counts counted (row body).value
    → (IsUtf8 counted.error_message.now → ⊥) → Contains (meaning status body).faults bad_utf8
status-text-fault body counted c h =
    subst (λ l. Contains l bad_utf8) (sym (status-faults body))
    (Contains-append_right (row body).faults _ bad_utf8
    (subst (λ t. Contains (utf8 t).faults bad_utf8) c.error_message
    (not-utf8 counted.error_message.now h (is_utf8 counted.error_message.now) refl)))

-- Where the row has no fault and the text is UTF-8, the Status is read as that text.
pub status-is-read : (body : List ℕ) (counted : PartialFields) (message : List ℕ)
    → Counts counted (row body).value → (row body).faults ≡ [] → IsUtf8 counted.error_message.now
    → message ≡ counted.error_message.now →
    Reads (meaning status body) (message ▸ tt)
status-is-read body counted message c e h same = (
  status-faults body
      ∙ ap (λ l. l ++ (utf8 (last_bytes (payloads 2 text (row body).value))).faults) e
      ∙ ap (λ t. (utf8 t).faults) (sym c.error_message)
      ∙ rw (is_utf8-from_IsUtf8 counted.error_message.now h) refl,
  status-value body counted c ∙ ap (λ t. t ▸ tt) (sym same),
)
