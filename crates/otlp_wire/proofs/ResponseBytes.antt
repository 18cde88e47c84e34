-- The bytes that a response is written as.
use Rattle.std.proofs.Common.{◌≡◌, ◌≢◌, refl, sym, ap, ◌∙◌, ℕ, ℤ, ◌+◌, ◌*◌, ◌<◌, ◌^◌, ◌==◌, ◌&&◌}
use Rattle.std.proofs.Common.{Bool, arith, List, [], ◌∷◌, ◌++◌, append_assoc, append-nil, length}
use Rattle.std.proofs.Common.{true, false, cond, Result, Ok, Err, OnOk}
use Rattle.std.proofs.lemmas.Bool.{eqb-true, ne_eqb}
use Rattle.std.specs.Int.{w64, cast_unsigned}
use Rattle.model_message.specs.Reading.{Reading, Reads, done}
use Rattle.model_message.specs.Wire.{Field, varint}
use Rattle.model_message.specs.Tables
use Rattle.model_message.specs.Tables.{Message, ◌▸◌}
use Rattle.model_message.specs.Messages.{meaning, wire_type}
use Rattle.model_message.specs.Canon.{shortest, payload_bytes, field_bytes, bytes_field}
use Rattle.model_message.specs.Canon.{number_field, unless_empty, unless_no_fields, row_bytes}
use Rattle.model_message.specs.Canon.{shape_fields, table_fields, canon}
use Rattle.model_message.specs.Whole.{IsMessage}
use Rattle.model_message.proofs.Composed.{row_bytes-append}
use Rattle.model_message.proofs.Lengths.{canon-reads}
use Rattle.otlp_wire.specs.Response.{partial_fields}

-- What holds in the case of an `Ok` may be weakened.
pub of-ok : {T E P Q : Type 0} (r : Result T E) → (P → Q) → OnOk r P → OnOk r Q
of-ok (Ok x) f h = f h
of-ok (Err e) f h = tt

-- A tag and the payload after it are the bytes of the field.
pub keyed : (f : Field) (old mid new : List ℕ)
    → mid ≡ old ++ shortest (f.number * 8 + wire_type f.payload)
    → new ≡ mid ++ payload_bytes f.payload → new ≡ old ++ field_bytes f
unfolding field_bytes
keyed f old mid new p q =
    q ∙ ap (λ bs. bs ++ payload_bytes f.payload) p
    ∙ append_assoc old (shortest (f.number * 8 + wire_type f.payload)) (payload_bytes f.payload)

-- A row without a field is written as no bytes.
pub no-row : row_bytes [] ≡ []
unfolding row_bytes
no-row = refl

-- A row of one field is written as the bytes of that field.
pub single : (f : Field) → row_bytes (f ∷ []) ≡ field_bytes f
unfolding row_bytes
single f = append-nil (field_bytes f)

-- A number of rejected spans other than 0 is written as a field.
pub some-number : (x : ℕ) → x ≢ 0
    → row_bytes (number_field 1 x) ≡ field_bytes (record { number = 1; payload = varint x })
some-number x h = rw (ne_eqb x 0 h) (single (record { number = 1; payload = varint x }))

-- The number 0 of rejected spans is written as no bytes.
pub no-number : row_bytes (number_field 1 0) ≡ []
no-number = no-row

-- Bytes that aren't empty are written as a field.
pub some-bytes : (n : ℕ) (bs : List ℕ) → (length bs == 0) ≡ false
    → row_bytes (unless_empty n bs) ≡ field_bytes (bytes_field n bs)
some-bytes n [] e = cc
some-bytes n (b ∷ bs) e = single (bytes_field n (b ∷ bs))

-- Empty bytes are written as no bytes.
pub no-bytes : (n : ℕ) (bs : List ℕ) → (length bs == 0) ≡ true → row_bytes (unless_empty n bs) ≡ []
no-bytes n [] e = no-row
no-bytes n (b ∷ bs) e =
    absurd (let l : length (b ∷ bs) ≡ 0 = eqb-true (length (b ∷ bs)) 0 e in omega (arith, l))

-- A partial success is written as its number and then its text.
pub partial-row : (x : ℕ) (m : List ℕ)
    → row_bytes (partial_fields x m) ≡ row_bytes (number_field 1 x) ++ row_bytes (unless_empty 2 m)
partial-row x m =
    row_bytes-append (number_field 1 x) (unless_empty 2 m ++ [])
    ∙ ap (λ fs. row_bytes (number_field 1 x) ++ row_bytes fs) (append-nil (unless_empty 2 m))

-- The partial success is written as a field if it has a number other than 0 or a text.
by-test : (t : Bool) (f : Field) (m : List ℕ) → (t && (length m == 0)) ≡ false →
    unless_no_fields 1 (cond t [] (f ∷ []) ++ (unless_empty 2 m ++ []))
    ≡ bytes_field 1 (row_bytes (cond t [] (f ∷ []) ++ (unless_empty 2 m ++ []))) ∷ []
unfolding row_bytes
by-test true f [] e = cc
by-test true f (b ∷ bs) e = refl
by-test false f m e = refl

none-by-test : (t : Bool) (f : Field) (m : List ℕ) → (t && (length m == 0)) ≡ true
    → cond t [] (f ∷ []) ++ (unless_empty 2 m ++ []) ≡ []
none-by-test true f [] e = refl
none-by-test true f (b ∷ bs) e =
    absurd (let l : length (b ∷ bs) ≡ 0 = eqb-true (length (b ∷ bs)) 0 e in omega (arith, l))
none-by-test false f m e = cc

-- A response that rejects spans or has a message is written as its one partial success.
pub some-response : (i : ℤ) (m : List ℕ) → ((cast_unsigned w64 i == 0) && (length m == 0)) ≡ false →
    canon Tables.response ((i ▸ m ▸ tt) ▸ tt)
    ≡ field_bytes (bytes_field 1 (row_bytes (partial_fields (cast_unsigned w64 i) m)))
unfolding canon table_fields shape_fields
some-response i m e =
    ap (λ fs. row_bytes (fs ++ []))
    (by-test (cast_unsigned w64 i == 0)
    (record { number = 1; payload = varint (cast_unsigned w64 i) }) m e)
    ∙ single (bytes_field 1 (row_bytes (partial_fields (cast_unsigned w64 i) m)))

-- A response that rejects no spans and has no message is written as no bytes.
pub no-response : (i : ℤ) (m : List ℕ) → ((cast_unsigned w64 i == 0) && (length m == 0)) ≡ true
    → canon Tables.response ((i ▸ m ▸ tt) ▸ tt) ≡ []
unfolding canon table_fields shape_fields
no-response i m e =
    ap (λ fs. row_bytes (unless_no_fields 1 fs ++ []))
    (none-by-test (cast_unsigned w64 i == 0)
    (record { number = 1; payload = varint (cast_unsigned w64 i) }) m e)
    ∙ no-row

-- The bytes that a response is canonically written as are read as that response.
pub response-reads : (r : Message Tables.response) (bs : List ℕ) → IsMessage Tables.response r
    → bs ≡ canon Tables.response r → length bs < 2 ^ 64 → Reads (meaning Tables.response bs) r
response-reads r bs w e l =
    let short : length (canon Tables.response r) < 2 ^ 64 = rw (← e) l in
    let same : meaning Tables.response bs ≡ done r =
    ap (meaning Tables.response) e ∙ canon-reads Tables.response r refl w short in (
      ap (λ (x : Reading (Message Tables.response)). x.faults) same,
      ap (λ (x : Reading (Message Tables.response)). x.value) same,
    )

-- Where the number is 0 and the text is empty, the response is written as no bytes.
pub empty-response : (r : Message Tables.response) (x : ℕ) (m out : List ℕ)
    → x ≡ cast_unsigned w64 r.0.0 → m ≡ r.0.1.0 → out ≡ [] → ((x == 0) && (length m == 0)) ≡ true
    → out ≡ canon Tables.response r
empty-response r x m out p q o e = o ∙ sym (no-response r.0.0 r.0.1.0 (rw (← p, ← q) e))

-- Where the number isn't 0 or the text isn't empty, the response is written as its partial success.
pub full-response : (r : Message Tables.response) (x : ℕ) (m bytes out : List ℕ)
    → x ≡ cast_unsigned w64 r.0.0 → m ≡ r.0.1.0 → bytes ≡ row_bytes (partial_fields x m)
    → out ≡ field_bytes (bytes_field 1 bytes) →
    ((x == 0) && (length m == 0)) ≡ false → out ≡ canon Tables.response r
full-response r x m bytes out p q b o e =
    o
    ∙ ap (λ bs. field_bytes (bytes_field 1 bs))
    (b ∙ ap (λ y. row_bytes (partial_fields y m)) p
    ∙ ap (λ t. row_bytes (partial_fields (cast_unsigned w64 r.0.0) t)) q)
    ∙ sym (some-response r.0.0 r.0.1.0 (rw (← p, ← q) e))
