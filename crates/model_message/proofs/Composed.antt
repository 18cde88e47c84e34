-- The bytes of a message are those of its fields, one after the other.
use Rattle.std.proofs.Common.{◌≡◌, refl, sym, ap, ◌∙◌, ℕ, List, [], ◌∷◌, ◌++◌, append_assoc}
use Rattle.std.proofs.Common.{append-nil, flat_map}
use Rattle.model_message.specs.Wire.{Field}
use Rattle.model_message.specs.Tables.{Shape, Table, ◌⦂◌◂◌, end, ValueOf, Message, repeated}
use Rattle.model_message.specs.Canon.{field_bytes, row_bytes, shape_fields, element_fields}
use Rattle.model_message.specs.Canon.{table_fields, canon, shape_bytes}

-- The bytes of two rows, one after the other, are those of the first and then those of the second.
pub row_bytes-append : (a b : List Field) → row_bytes (a ++ b) ≡ row_bytes a ++ row_bytes b
unfolding row_bytes
row_bytes-append [] b = refl
row_bytes-append (f ∷ a) b =
    ap (λ bs. field_bytes f ++ bs) (row_bytes-append a b)
    ∙ sym (append_assoc (field_bytes f) (row_bytes a) (row_bytes b))

-- The bytes of a message are those of its first field and then those of the others.
pub canon-field : (n : ℕ) (s : Shape) (t : Table) (x : ValueOf s) (r : Message t)
    → canon (n ⦂ s ◂ t) (x, r) ≡ shape_bytes n s x ++ canon t r
unfolding canon table_fields
canon-field n s t x r = row_bytes-append (shape_fields n s x) (table_fields t r)

-- A message of the empty table is written as no bytes.
pub canon-end : canon end tt ≡ []
unfolding canon table_fields row_bytes
canon-end = refl

-- A repeated field without elements is written as no bytes.
pub repeated-none : (n : ℕ) (s : Shape) → shape_bytes n (repeated s) [] ≡ []
unfolding shape_fields row_bytes
repeated-none n s = refl

-- One more element of a repeated field is written after the others.
pub repeated-more : (n : ℕ) (s : Shape) (xs : List (ValueOf s)) (x : ValueOf s)
    → shape_bytes n (repeated s) (xs ++ x ∷ [])
    ≡ shape_bytes n (repeated s) xs ++ row_bytes (element_fields n s x)
unfolding shape_fields row_bytes
repeated-more n s [] x =
    row_bytes-append (element_fields n s x) [] ∙ append-nil (row_bytes (element_fields n s x))
repeated-more n s (y ∷ xs) x =
    row_bytes-append (element_fields n s y) (flat_map (λ z. element_fields n s z) (xs ++ x ∷ []))
    ∙ ap (λ bs. row_bytes (element_fields n s y) ++ bs) (repeated-more n s xs x)
    ∙ sym (append_assoc (row_bytes (element_fields n s y)) (shape_bytes n (repeated s) xs)
    (row_bytes (element_fields n s x)))
    ∙ ap (λ bs. bs ++ row_bytes (element_fields n s x))
    (sym (row_bytes-append (element_fields n s y) (flat_map (λ z. element_fields n s z) xs)))
