-- Rows of fields that JSON means: what they are as bytes, and what they are read as.
use Rattle.std.proofs.Common.{◌≡◌, ap, ◌∙◌, ℕ, ◌<◌, ◌+◌, ◌*◌, ◌^◌, List, []}
use Rattle.std.proofs.Common.{◌∷◌, ◌++◌, length, length-append, arith}
use Rattle.model_message.specs.AnyValue.{AnyValue}
use Rattle.model_message.specs.Reading.{Reading, ◌>>=◌, done}
use Rattle.model_message.specs.Wire.{Field, Payload, len}
use Rattle.model_message.specs.Tables.{Table, Message, message}
use Rattle.model_message.specs.Messages.{PayloadReading, read, read_table}
use Rattle.model_message.specs.Canon.{bytes_field, field_bytes, payload_bytes}
use Rattle.model_message.specs.Canon.{row_bytes, shortest}
use Rattle.model_message.proofs.Composed.{row_bytes-append}
use Rattle.model_message.proofs.RowLaws.{HasPayload, HasSpelling, HaveSpellings, row-row_bytes}
use Rattle.model_message.proofs.ReadBack.{joined-one}

-- Bytes of a row with a field of bytes before it: these and the row are no longer.
pub bytes_below : (n : ℕ) (bs : List ℕ) (rest : List Field) (size : ℕ)
    → length (row_bytes (bytes_field n bs ∷ rest)) < size
    → (length bs < size) × (length (row_bytes rest) < size)
unfolding row_bytes field_bytes payload_bytes
bytes_below n bs rest size h =
    let tag = shortest (n * 8 + 2) in
    let count = shortest (length bs) in
    let all = length-append (tag ++ (count ++ bs)) (row_bytes rest) in
    let field = length-append tag (count ++ bs) in
    let payload = length-append count bs in (
      omega (arith, h, all, field, payload),
      omega (arith, h, all, field, payload),
    )

-- A row with any field before it is no shorter.
pub rest_below : (f : Field) (rest : List Field) (size : ℕ)
    → length (row_bytes (f ∷ rest)) < size → length (row_bytes rest) < size
unfolding row_bytes
rest_below f rest size h = omega (arith, h, length-append (field_bytes f) (row_bytes rest))

-- Bytes that are few enough have a spelling.
pub spelled_bytes : (n : ℕ) (bs : List ℕ) → 0 < n → n < 2 ^ 29 → length bs < 2 ^ 64
    → HasSpelling (bytes_field n bs)
spelled_bytes n bs positive in_range small =
    record { positive = positive; in_range = in_range; payload = small }

-- A row that is spelled is read as a message as its fields are.
pub message_read : (values : PayloadReading AnyValue) (t : Table) (fields : List Field)
    (r : Message t)
    → HaveSpellings fields → read_table values t fields ≡ done r
    → read values (message t) (len (row_bytes fields) ∷ []) ≡ done r
unfolding read
message_read values t fields r h is =
    ap (λ x. x >>= λ f. read_table values t f)
    (joined-one (row_bytes fields) fields (row-row_bytes fields h))
    ∙ is

-- one value after another
abbrev pub both : {A B : Type 0} → Reading A → Reading B → Reading (A × B)
both a b = a >>= λ x. b >>= λ y. done (x, y)

-- A row that begins with another is no shorter than either.
pub parts_below : (a b : List Field) (size : ℕ) → length (row_bytes (a ++ b)) < size
    → (length (row_bytes a) < size) × (length (row_bytes b) < size)
parts_below a b size h =
    let all = ap length (row_bytes-append a b) ∙ length-append (row_bytes a) (row_bytes b) in
    (omega (arith, h, all), omega (arith, h, all))

-- Two rows that have spellings are one that has.
pub both_spelled : (a b : List Field) → HaveSpellings a → HaveSpellings b → HaveSpellings (a ++ b)
both_spelled [] b h k = k
both_spelled (f ∷ a) b h k = (h.0, both_spelled a b h.1 k)

-- A payload that has room has a spelling.
pub spelled_payload : (n : ℕ) (p : Payload) → 0 < n → n < 2 ^ 29 → HasPayload p
    → HasSpelling (record { number = n; payload = p })
spelled_payload n p positive in_range small =
    record { positive = positive; in_range = in_range; payload = small }
