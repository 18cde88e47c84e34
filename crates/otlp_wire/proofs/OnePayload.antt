-- The payloads of one field, and of fields one after the other.
use Rattle.std.proofs.Common.{◌≡◌, refl, sym, ap, ap₂, ◌∙◌, arith, ℕ, List, [], ◌∷◌, ◌++◌, Bool}
use Rattle.std.proofs.Common.{true, false, cond, filter, map, ◌&&◌, ◌==◌}
use Rattle.std.proofs.lemmas.Bool.{ne_eqb}
use Rattle.std.specs.Borrow.{Bor}
use Rattle.model_message.specs.Wire.{Field}
use Rattle.model_message.proofs.ReadBack.{payloads-own}
use Rattle.otlp_wire.specs.Fields.{payload_of, field_of}
use Rattle.otlp_wire.specs.declared.reader.Field.{Field as Found}
use Rattle.otlp_wire.specs.declared.reader.Payload.{Payload}
use Rattle.otlp_wire.specs.declared.reader.Payload.TheVariants.{Varint, I64, Len, I32}
use Rattle.model_message.specs.Tables.{Shape}
use Rattle.model_message.specs.Messages.{wire, wire_type, is_field, payloads}

-- The payloads of a field in two rows, one after the other, are those in the first and then those
-- in the second.
pub payloads-append : (n : ℕ) (s : Shape) (a b : List Field)
    → payloads n s (a ++ b) ≡ payloads n s a ++ payloads n s b
unfolding payloads
payloads-append n s [] b = refl
payloads-append n s (f ∷ a) b = go (is_field n s f) (payloads-append n s a b)
  where
    go : (t : Bool) → payloads n s (a ++ b) ≡ payloads n s a ++ payloads n s b →
        map (λ f. f.payload)
        (cond t (f ∷ filter (is_field n s) (a ++ b)) (filter (is_field n s) (a ++ b)))
        ≡ map (λ f. f.payload) (cond t (f ∷ filter (is_field n s) a) (filter (is_field n s) a))
        ++ payloads n s b
    go true ih = ap (λ l. f.payload ∷ l) ih
    go false ih = ih

-- A field of another number has no payload for this field of a table.
pub other-number : (n : ℕ) (s : Shape) (f : Field) → (f.number ≡ n → ⊥) → payloads n s (f ∷ []) ≡ []
unfolding payloads
other-number n s f h = rw (ne_eqb f.number n h) refl

-- A field of another wire type has no payload for this field of a table.
pub other-type : (n : ℕ) (s : Shape) (f : Field) → (wire_type f.payload ≡ wire s → ⊥)
    → payloads n s (f ∷ []) ≡ []
unfolding payloads
other-type n s f h = rw (ne_eqb (wire_type f.payload) (wire s) h) (go (f.number == n))
  where
    go : (t : Bool) → map (λ f. f.payload) (cond (t && false) (f ∷ []) []) ≡ []
    go true = refl
    go false = refl

-- ---- a field that was read

-- A payload with this number and of this wire type is the one of this field of a table.
pub found-one : (f : Found) (n : ℕ) (p : Payload) → f.payload ≡ p → f.number ≡ n → (s : Shape)
    → wire s ≡ wire_type (payload_of p) → payloads n s (field_of f ∷ []) ≡ payload_of p ∷ []
found-one f n p e1 e2 s w =
    ap₂ (λ m q. payloads n s (record { number = m; payload = payload_of q } ∷ [])) e2 e1
    ∙ payloads-own n s (payload_of p) (sym w)

-- A payload of another wire type is none of this field of a table.
pub no-one : (f : Found) (n kind : ℕ) → (wire_type (payload_of f.payload) ≡ kind → ⊥) → (s : Shape)
    → wire s ≡ kind → payloads n s (field_of f ∷ []) ≡ []
no-one f n kind other s w = other-type n s (field_of f) (λ e. other (e ∙ w))

-- A payload that is no number of 8 bytes has another wire type than 1.
pub is-fixed64 : (p : Payload) → ((v : ℕ) → p ≡ I64 v → ⊥) → wire_type (payload_of p) ≡ 1 → ⊥
is-fixed64 (Varint v) h e = omega (arith, e)
is-fixed64 (I64 v) h e = h v refl
is-fixed64 (Len b) h e = omega (arith, e)
is-fixed64 (I32 v) h e = omega (arith, e)

-- A payload that is no number of 4 bytes has another wire type than 5.
pub is-fixed32 : (p : Payload) → ((v : ℕ) → p ≡ I32 v → ⊥) → wire_type (payload_of p) ≡ 5 → ⊥
is-fixed32 (Varint v) h e = omega (arith, e)
is-fixed32 (I64 v) h e = omega (arith, e)
is-fixed32 (Len b) h e = omega (arith, e)
is-fixed32 (I32 v) h e = h v refl

-- A payload that is no varint has another wire type than 0.
pub is-varint : (p : Payload) → ((v : ℕ) → p ≡ Varint v → ⊥) → wire_type (payload_of p) ≡ 0 → ⊥
is-varint (Varint v) h e = h v refl
is-varint (I64 v) h e = omega (arith, e)
is-varint (Len b) h e = omega (arith, e)
is-varint (I32 v) h e = omega (arith, e)

-- A payload that is not length-delimited has another wire type than 2.
pub is-bytes : (p : Payload) → ((b : Bor (List ℕ)) → p ≡ Len b → ⊥) → wire_type (payload_of p) ≡ 2
    → ⊥
is-bytes (Varint v) h e = omega (arith, e)
is-bytes (I64 v) h e = omega (arith, e)
is-bytes (Len b) h e = h b refl
is-bytes (I32 v) h e = omega (arith, e)
