-- The row of some bytes, against what is spelled there, and the row of rows one after the other.
use Rattle.std.proofs.Common.{◌≡◌, refl, sym, ap, subst, ◌∙◌, ℕ, List, [], ◌∷◌, ◌++◌, length, drop}
use Rattle.std.proofs.Common.{Result, Ok, Err, arith, append_assoc, append-nil, ◌<◌, ◌+◌, ◌-◌, ◌*◌}
use Rattle.std.proofs.Common.{◌^◌, ◌↔◌, suc, zero}
use Rattle.std.proofs.lemmas.List.{length-append, drop_at}
use Rattle.std.proofs.lemmas.Nat.{from_le_bytes-to_le_bytes_4, from_le_bytes-to_le_bytes_8}
use Rattle.model_message.specs.Reading.{Fault, Reading, done, Reads}
use Rattle.model_message.specs.Wire.{field, Field, Payload, varint, i64, len, i32, put, row_from}
use Rattle.model_message.specs.Wire.{row_after, row}
use Rattle.model_message.specs.Messages.{wire_type}
use Rattle.model_message.specs.Canon.{shortest, payload_bytes, field_bytes, row_bytes}
use Rattle.model_message.specs.Spelling.{IsEnded, IsPayload, IsField, IsRow}
use Rattle.model_message.proofs.Varints.{shortest-is}
use Rattle.model_message.proofs.Fields.{takes-field, type-below}

skipped : (front rest : List ℕ) → row_after (length front) (front ++ rest) ≡ row rest
unfolding row row_after
skipped [] rest = refl
skipped (b ∷ front) rest = skipped front rest

past : (front rest : List ℕ) → length (front ++ rest) - length rest ≡ length front
past front rest = simp length-append (omega arith)

-- Bytes that begin with a field, whose first byte is given, have that field and then the row of the
-- rest.
row-from-field : (b : ℕ) (front rest : List ℕ) (f : Field) → IsField (b ∷ front) f
    → row (b ∷ front ++ rest) ≡ put f (row rest)
unfolding row row_after
row-from-field b front rest f s =
    ap (λ r. row_from r (λ left. row_after (length (front ++ rest) - length left) (front ++ rest)))
    (takes-field.again (b ∷ front) rest f s)
    ∙ ap (λ n. put f (row_after n (front ++ rest))) (past front rest)
    ∙ ap (put f) (skipped front rest)

-- A field has a first byte.
not-nothing : (tag rest : List ℕ) → [] ≡ tag ++ rest → IsEnded tag → ⊥
not-nothing [] rest e h = h
not-nothing (b ∷ tag) rest e h = absurd (omega (arith, ap length e))

-- The row of bytes that begin with a field is that field and then the row of the rest.
pub row-field : (front rest : List ℕ) (f : Field) → IsField front f
    → row (front ++ rest) ≡ put f (row rest)
row-field [] rest f s = absurd (not-nothing s.tag s.rest s.whole s.is_tag.ended)
row-field (b ∷ front) rest f s = row-from-field b front rest f s

-- the row with more fields before it
abbrev pub appended : List Field → Reading (List Field) → Reading (List Field)
appended fields r = record { value = fields ++ r.value; faults = r.faults }

-- The row of a row's bytes with more after them: its fields, and then the row of what is after.
pub row-append : (bs rest : List ℕ) (fields : List Field) → IsRow bs fields
    → row (bs ++ rest) ≡ appended fields (row rest)
row-append bs rest [] s = ap (λ l. row (l ++ rest)) s
row-append bs rest (f ∷ fields) s =
    ap (λ l. row (l ++ rest)) s.4 ∙ ap row (append_assoc s.0 s.1 rest)
    ∙ row-field s.0 (s.1 ++ rest) f s.2 ∙ ap (put f) (row-append s.1 rest fields s.3)

row-nothing : row [] ≡ done []
unfolding row row_after
row-nothing = refl

row-again : (bs : List ℕ) (fields : List Field) → IsRow bs fields → row bs ≡ done fields
row-again bs fields s =
    ap row (sym (append-nil bs)) ∙ row-append bs [] fields s ∙ ap (appended fields) row-nothing
    ∙ ap done (append-nil fields)

-- ---- what is read is spelled

some-fault : {A : Type 0} (x : A) (xs : List A) → x ∷ xs ≡ [] → ⊥
some-fault x xs e = omega (arith, ap length e)

rest-of : (b : ℕ) (bs front rest : List ℕ) → b ∷ bs ≡ front ++ rest → (f : Field) → IsField front f
    → drop (length bs - length rest) bs ≡ rest
rest-of b bs [] rest e f s = absurd (not-nothing s.tag s.rest s.whole s.is_tag.ended)
rest-of b bs (c ∷ front) rest e f s =
    let same : bs ≡ front ++ rest = ap (drop 1) e in
    ap (λ l. drop (length l - length rest) l) same
    ∙ ap (λ n. drop n (front ++ rest)) (past front rest) ∙ drop_at front rest (length front) refl

found-at : (b : ℕ) (bs : List ℕ) (fields : List Field)
    → ((skip : ℕ) (more : List Field) → Reads (row_after skip bs) more
    → IsRow (drop skip bs) more) →
    (r : Result (Field × List ℕ) Fault) → field (b ∷ bs) ≡ r
    → Reads (row_from r (λ rest. row_after (length bs - length rest) bs)) fields
    → IsRow (b ∷ bs) fields
found-at b bs fields ih (Err f) e h = absurd (some-fault f [] h.0)
found-at b bs fields ih (Ok x) e h =
    let s = takes-field.found (b ∷ bs) x.1 x.0 e in
    let later = (row_after (length bs - length x.1) bs).value in
    let more = ih (length bs - length x.1) later (h.0, refl) in
    subst (IsRow (b ∷ bs)) h.1
    (s.0, x.1, s.1, subst (λ l. IsRow l later) (rest-of b bs s.0 x.1 s.2 x.0 s.1) more, s.2)

row-found : (bs : List ℕ) (skip : ℕ) (fields : List Field) → Reads (row_after skip bs) fields
    → IsRow (drop skip bs) fields
unfolding row_after
row-found [] zero fields h = subst (IsRow []) h.1 refl
row-found [] (suc skip) fields h = subst (IsRow []) h.1 refl
row-found (b ∷ bs) (suc skip) fields h = row-found bs skip fields h
row-found (b ∷ bs) zero fields h = found-at b bs fields (row-found bs) (field (b ∷ bs)) refl h

-- The fields of some bytes are those that are spelled there.
pub row-spelled : (bs : List ℕ) (fields : List Field) → IsRow bs fields ↔ Reads (row bs) fields
unfolding row
row-spelled bs fields = (
  λ s. let e = row-again bs fields s in (ap (λ r. r.faults) e, ap (λ r. r.value) e),
  row-found bs 0 fields,
)

-- ---- what is written is spelled

abbrev pub HasPayload : Payload → Type 0
HasPayload (varint n) = n < 2 ^ 64
HasPayload (i64 n) = n < 2 ^ 64
HasPayload (len bs) = length bs < 2 ^ 64
HasPayload (i32 n) = n < 2 ^ 32

-- The field has a spelling: its number and its payload are in range.
pub record HasSpelling (f : Field) : Type 0 where
  pub positive : 0 < f.number
  pub in_range : f.number < 2 ^ 29
  pub payload : HasPayload f.payload

payload-is : (p : Payload) → HasPayload p → IsPayload (payload_bytes p) p
unfolding payload_bytes
payload-is (varint n) l = shortest-is n l
payload-is (i64 n) l = (refl, sym (from_le_bytes-to_le_bytes_8 n l))
payload-is (len bs) l =
    record { size = shortest (length bs); count = shortest-is (length bs) l; whole = refl }
payload-is (i32 n) l = (refl, sym (from_le_bytes-to_le_bytes_4 n l))

-- The bytes that a field is written as spell the field.
pub field_bytes-is : (f : Field) → HasSpelling f → IsField (field_bytes f) f
unfolding field_bytes
field_bytes-is f h = record {
  tag = shortest (f.number * 8 + wire_type f.payload);
  rest = payload_bytes f.payload;
  is_tag = shortest-is _ (omega (arith, h.in_range, type-below f.payload));
  positive = h.positive;
  in_range = h.in_range;
  payload = payload-is f.payload h.payload;
  whole = refl;
}

abbrev pub HaveSpellings : List Field → Type 0
HaveSpellings [] = Unit {0}
HaveSpellings (f ∷ fields) = HasSpelling f × HaveSpellings fields

-- The bytes that a row is written as spell the row.
pub row_bytes-is : (fields : List Field) → HaveSpellings fields → IsRow (row_bytes fields) fields
unfolding row_bytes
row_bytes-is [] h = refl
row_bytes-is (f ∷ fields) h =
    (field_bytes f, row_bytes fields, field_bytes-is f h.0, row_bytes-is fields h.1, refl)

-- Fields that are written are read again.
pub row-row_bytes : (fields : List Field) → HaveSpellings fields
    → row (row_bytes fields) ≡ done fields
row-row_bytes fields h = row-again (row_bytes fields) fields (row_bytes-is fields h)
