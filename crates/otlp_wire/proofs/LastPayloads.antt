-- The payloads of a field of a table, and the last of them, after one more.
use Rattle.std.proofs.Common.{◌≡◌, refl, sym, ap, ◌∙◌, ℕ, List, [], ◌∷◌, ◌++◌, Option, Some, None}
use Rattle.std.proofs.Common.{append-nil}
use Rattle.std.specs.Borrow.{Bor}
use Rattle.std.specs.Option.{option_map, option_to_list, unwrap_or}
use Rattle.std.specs.List.{last_or}
use Rattle.model_message.specs.Wire.{Field, Payload, varint, len}
use Rattle.model_message.specs.Tables.{Shape, text, int64}
use Rattle.model_message.specs.Messages.{payloads, number_in, bytes_in, last_number, last_bytes}
use Rattle.otlp_wire.proofs.OnePayload.{payloads-append}
use Rattle.otlp_wire.specs.Response.{Counts}
use Rattle.otlp_wire.specs.declared.response.PartialFields.{PartialFields}

-- A field that is not this one of the table adds no payload.
pub same-payloads : (n : ℕ) (s : Shape) (fields : List Field) (f : Field)
    → payloads n s (f ∷ []) ≡ [] → payloads n s (fields ++ f ∷ []) ≡ payloads n s fields
same-payloads n s fields f e =
    payloads-append n s fields (f ∷ []) ∙ ap (λ l. payloads n s fields ++ l) e ∙ append-nil _

-- A field that is this one of the table adds its payload after the others.
pub one-payload : (n : ℕ) (s : Shape) (fields : List Field) (f : Field) (p : Payload)
    → payloads n s (f ∷ []) ≡ p ∷ []
    → payloads n s (fields ++ f ∷ []) ≡ payloads n s fields ++ p ∷ []
one-payload n s fields f p e =
    payloads-append n s fields (f ∷ []) ∙ ap (λ l. payloads n s fields ++ l) e

-- The payload of a field among others is between the payloads of those before and after it.
pub payloads-between : (n : ℕ) (s : Shape) (before after : List Field) (f : Field) (p : Payload)
    → payloads n s (f ∷ []) ≡ p ∷ []
    → payloads n s (before ++ f ∷ after) ≡ payloads n s before ++ p ∷ payloads n s after
payloads-between n s before after f p e =
    payloads-append n s before (f ∷ after)
    ∙ ap (λ l. payloads n s before ++ l)
    (payloads-append n s (f ∷ []) after ∙ ap (λ l. l ++ payloads n s after) e)

-- The last payload of a list is the one that was pushed last.
pub last_or-push : (o : Option Payload) (ps : List Payload) (p : Payload)
    → last_or o (ps ++ p ∷ []) ≡ Some p
last_or-push o [] p = refl
last_or-push o (q ∷ ps) p = last_or-push (Some q) ps p

last-number : (make : ℕ → Payload) → ((v : ℕ) → number_in (make v) ≡ v) → (ps : List Payload)
    (found : Option ℕ)
    → last_number (ps ++ option_to_list (option_map make found)) ≡ unwrap_or found (last_number ps)
last-number make is ps None = ap last_number (append-nil ps)
last-number make is ps (Some v) =
    ap (λ o. number_in (unwrap_or o (varint 0))) (last_or-push None ps (make v)) ∙ is v

last-bytes : (ps : List Payload) (found : Option (Bor (List ℕ))) (old : Bor (List ℕ))
    → old.now ≡ last_bytes ps →
    last_bytes (ps ++ option_to_list (option_map (λ bytes. len bytes.now) found))
    ≡ (unwrap_or found old).now
last-bytes ps None old e = ap last_bytes (append-nil ps) ∙ sym e
last-bytes ps (Some bytes) old e =
    ap (λ o. bytes_in (unwrap_or o (len []))) (last_or-push None ps (len bytes.now))

-- The last bytes of a field of the table are right after one more field, found or not.
pub bytes-more : (n : ℕ) (s : Shape) (fields : List Field) (f : Field)
    (found : Option (Bor (List ℕ))) (old : Bor (List ℕ))
    → payloads n s (f ∷ []) ≡ option_to_list (option_map (λ b. len b.now) found) →
    old.now ≡ last_bytes (payloads n s fields)
    → (unwrap_or found old).now ≡ last_bytes (payloads n s (fields ++ f ∷ []))
bytes-more n s fields f found old e h =
    sym (ap last_bytes (payloads-append n s fields (f ∷ []) ∙ ap (λ l. payloads n s fields ++ l) e)
    ∙ last-bytes (payloads n s fields) found old h)

-- The last number of a field of the table is right after one more field, found or not; each such
-- payload holds its number.
pub number-more : (make : ℕ → Payload) → ((v : ℕ) → number_in (make v) ≡ v) → (n : ℕ) (s : Shape)
    (fields : List Field) (f : Field) (found : Option ℕ) (old : ℕ)
    → payloads n s (f ∷ []) ≡ option_to_list (option_map make found) →
    old ≡ last_number (payloads n s fields)
    → unwrap_or found old ≡ last_number (payloads n s (fields ++ f ∷ []))
number-more make is n s fields f found old e h =
    ap (unwrap_or found) h
    ∙ sym
    (ap last_number (payloads-append n s fields (f ∷ []) ∙ ap (λ l. payloads n s fields ++ l) e)
    ∙ last-number make is (payloads n s fields) found)

-- The payloads that count in a partial success are right after one more field.
pub counts-more : (old : PartialFields) (f : Field) (number : Option ℕ)
    (bytes : Option (Bor (List ℕ)))
    → payloads 1 int64 (f ∷ []) ≡ option_to_list (option_map varint number) →
    payloads 2 text (f ∷ []) ≡ option_to_list (option_map (λ b. len b.now) bytes)
    → (spans : ℕ) (message : Bor (List ℕ)) → spans ≡ unwrap_or number old.rejected_spans
    → message ≡ unwrap_or bytes old.error_message →
    (fields : List Field) → Counts old fields
    → Counts (record { rejected_spans = spans; error_message = message }) (fields ++ f ∷ [])
counts-more old f number bytes e1 e2 spans message s1 s2 fields h = record {
  rejected_spans =
      s1
      ∙ number-more varint (λ v. refl) 1 int64 fields f number old.rejected_spans e1
      h.rejected_spans;
  error_message =
      ap (λ b. b.now) s2 ∙ bytes-more 2 text fields f bytes old.error_message e2 h.error_message;
}
