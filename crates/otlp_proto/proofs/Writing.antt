-- A message is written when its fields are, one after the other.
use Rattle.std.proofs.Common.{◌≡◌, ◌≢◌, map, take, get_or, refl, sym, ap, ◌∙◌, ℕ, zero, suc, ◌+◌}
use Rattle.std.proofs.Common.{◌*◌, ◌/◌, ◌%◌, ◌<◌, ◌^◌, ◌==◌, pos, List, [], ◌∷◌, ◌++◌, length, true}
use Rattle.std.proofs.Common.{false, cond, nat_lt, arith, add-one}
use Rattle.std.proofs.lemmas.List.{append-nil, length-append, map-append}
use Rattle.std.proofs.Math.Seq.{take-suc}
use Rattle.std.proofs.lemmas.Bool.{eqb-true, ne_eqb}
use Rattle.std.specs.List.{AllByRecursion}
use Rattle.std.specs.Prelude.{Option, None, Some, option_map, unwrap_or}
use Rattle.model_span.specs.Spans.{Parent}
use Rattle.model_export.specs.Export.{parent_id}
use Rattle.model_message.specs.Wire.{Field, varint, i64, i32}
use Rattle.model_message.specs.Tables.{Shape, text, bytes, uint32, enum, fixed64, fixed32, message}
use Rattle.model_message.specs.Tables.{repeated, Table, end, ◌⦂◌◂◌, ValueOf, Message}
use Rattle.model_message.specs.Messages.{wire_type}
use Rattle.model_message.specs.Canon.{septets_of, shortest, payload_bytes, field_bytes, bytes_field}
use Rattle.model_message.specs.Canon.{unless_empty, unless_no_fields, is_flat, row_bytes}
use Rattle.model_message.specs.Canon.{shape_fields, shape_bytes, table_fields, canon}
use Rattle.model_message.specs.Whole.{IsText, IsWhole, IsMessage}
use Rattle.model_message.proofs.Composed.{canon-field, canon-end, row_bytes-append}
use Rattle.otlp_proto.specs.Encode.{Cursor, Lays, Carries, Puts, PutsAll}
use Rattle.otlp_proto.proofs.Laying.{lays-none, lays-both, lays-as}

-- ---- the fields of a table

-- A message of the empty table is put without a byte.
pub no-field : {c : Cursor} → PutsAll end tt c c
no-field {c} = record { bytes = lays-as c c (sym canon-end) (lays-none c); whole = tt }

-- A field and then the others put the message of the table with that field first.
pub and-field : {n : ℕ} {s : Shape} {t : Table} {x : ValueOf s} {r : Message t} {c d e : Cursor}
    → Puts n s x c d → PutsAll t r d e → PutsAll (n ⦂ s ◂ t) (x, r) c e
and-field {n} {s} {t} {x} {r} {c} {d} {e} p q = record {
  bytes =
      lays-as c e (sym (canon-field n s t x r))
      (lays-both (shape_bytes n s x) (canon t r) c d e p.bytes q.bytes);
  whole = (p.whole, q.whole);
}

-- A message all of whose fields are put is carried.
pub carries : {t : Table} {r : Message t} {c d : Cursor} → PutsAll t r c d
    → Carries (canon t r) (IsMessage t r) c d
carries p = record { bytes = p.bytes; whole = p.whole }

-- A message that is carried is put.
pub written : {t : Table} {r : Message t} {c d : Cursor} → Carries (canon t r) (IsMessage t r) c d
    → PutsAll t r c d
written p = record { bytes = p.bytes; whole = p.whole }

-- ---- one field

-- A row of one field is written as the bytes of that field.
pub one-field : (f : Field) → row_bytes (f ∷ []) ≡ field_bytes f
unfolding row_bytes
one-field f = append-nil (field_bytes f)

-- A field of a table is put where the one field that its shape writes is laid.
one : {n : ℕ} {s : Shape} {x : ValueOf s} {c d : Cursor} (f : Field) → shape_fields n s x ≡ f ∷ []
    → IsWhole s x → Lays (field_bytes f) c d → Puts n s x c d
one {n} {s} {x} {c} {d} f e w q =
    record { bytes = lays-as c d (sym (ap row_bytes e ∙ one-field f)) q; whole = w }

-- A field of a table is put without a byte where its shape writes no field.
none : {n : ℕ} {s : Shape} {x : ValueOf s} {c : Cursor} → shape_fields n s x ≡ [] → IsWhole s x
    → Puts n s x c c
unfolding row_bytes
none {c = c} e w = record { bytes = lays-as c c (sym (ap row_bytes e)) (lays-none c); whole = w }

some-bytes : (n : ℕ) (bs : List ℕ) → (length bs == 0) ≡ false
    → unless_empty n bs ≡ bytes_field n bs ∷ []
some-bytes n [] e = cc
some-bytes n (b ∷ bs) e = refl

no-bytes : (n : ℕ) (bs : List ℕ) → (length bs == 0) ≡ true → unless_empty n bs ≡ []
no-bytes n [] e = refl
no-bytes n (b ∷ bs) e =
    absurd (let l : length (b ∷ bs) ≡ 0 = eqb-true (length (b ∷ bs)) 0 e in omega (arith, l))

-- A text that isn't empty is put when it is laid as a field.
pub some-text : {n : ℕ} {t : List ℕ} {c d : Cursor} → (length t == 0) ≡ false → IsText t
    → Lays (field_bytes (bytes_field n t)) c d → Puts n text t c d
unfolding shape_fields
some-text {n} {t} e w q = one (bytes_field n t) (some-bytes n t e) w q

-- An empty text is put without a byte.
pub no-text : {n : ℕ} {t : List ℕ} {c : Cursor} → (length t == 0) ≡ true → IsText t
    → Puts n text t c c
unfolding shape_fields
no-text {n} {t} e w = none (no-bytes n t e) w

-- Bytes that aren't empty are put when they are laid as a field.
pub some-octets : {n : ℕ} {t : List ℕ} {c d : Cursor} → (length t == 0) ≡ false
    → Lays (field_bytes (bytes_field n t)) c d → Puts n bytes t c d
unfolding shape_fields
some-octets {n} {t} e q = one (bytes_field n t) (some-bytes n t e) tt q

-- Bytes of length 0 are put without a byte.
pub no-octets : {n : ℕ} {t : List ℕ} {c : Cursor} → (length t == 0) ≡ true → Puts n bytes t c c
unfolding shape_fields
no-octets {n} {t} e = none (no-bytes n t e) tt

not-zero : (x : ℕ) → x ≢ 0 → (x == 0) ≡ false
not-zero x h = ne_eqb x 0 h

-- A number of 32 bits other than 0 is put when it is laid as a varint field.
pub some-uint32 : {n x : ℕ} {c d : Cursor} → x ≢ 0 → x < 2 ^ 32
    → Lays (field_bytes (record { number = n; payload = varint x })) c d → Puts n uint32 x c d
unfolding shape_fields
some-uint32 {n} {x} h w q =
    one (record { number = n; payload = varint x }) (rw (not-zero x h) refl) w q

-- The number 0 of a uint32 field is put without a byte.
pub no-uint32 : {n : ℕ} {c : Cursor} → Puts n uint32 0 c c
unfolding shape_fields
no-uint32 = none refl (omega arith)

-- An enum value other than 0 is put when it is laid as a varint field.
pub some-enum : {n x : ℕ} {c d : Cursor} → x ≢ 0 → x < 2 ^ 31
    → Lays (field_bytes (record { number = n; payload = varint x })) c d → Puts n enum (pos x) c d
unfolding shape_fields
some-enum {n} {x} h w q =
    one (record { number = n; payload = varint x }) (rw (not-zero x h) refl) (x, w, refl) q

-- The enum value 0 is put without a byte.
pub no-enum : {n : ℕ} {c : Cursor} → Puts n enum (pos 0) c c
unfolding shape_fields
no-enum = none refl (0, omega arith, refl)

-- A number other than 0 is put when it is laid as a field of 8 bytes.
pub some-fixed64 : {n x : ℕ} {c d : Cursor} → x ≢ 0 → x < 2 ^ 64
    → Lays (field_bytes (record { number = n; payload = i64 x })) c d → Puts n fixed64 x c d
unfolding shape_fields
some-fixed64 {n} {x} h w q =
    one (record { number = n; payload = i64 x }) (rw (not-zero x h) refl) w q

-- The number 0 of a field of 8 bytes is put without a byte.
pub no-fixed64 : {n : ℕ} {c : Cursor} → Puts n fixed64 0 c c
unfolding shape_fields
no-fixed64 = none refl (omega arith)

-- A number other than 0 is put when it is laid as a field of 4 bytes.
pub some-fixed32 : {n x : ℕ} {c d : Cursor} → x ≢ 0 → x < 2 ^ 32
    → Lays (field_bytes (record { number = n; payload = i32 x })) c d → Puts n fixed32 x c d
unfolding shape_fields
some-fixed32 {n} {x} h w q =
    one (record { number = n; payload = i32 x }) (rw (not-zero x h) refl) w q

-- The number 0 of a field of 4 bytes is put without a byte.
pub no-fixed32 : {n : ℕ} {c : Cursor} → Puts n fixed32 0 c c
unfolding shape_fields
no-fixed32 = none refl (omega arith)

-- The identifier of a parent is the one in the span's message, which is empty without a parent.
pub parent-id : (p : Option Parent) → unwrap_or (option_map (λ q. q.id) p) [] ≡ parent_id p
parent-id None = refl
parent-id (Some q) = refl

-- The empty list of bytes is put without a byte.
pub no-octets-at-all : {n : ℕ} {c : Cursor} → Puts n bytes [] c c
no-octets-at-all = no-octets refl

-- ---- a message in a field

-- A message that is not flat is put when it is laid as a field.
pub put-message : {n : ℕ} {t : Table} {r : Message t} {c d : Cursor} → is_flat t ≡ false
    → Carries (field_bytes (bytes_field n (canon t r))) (IsMessage t r) c d
    → Puts n (message t) r c d
unfolding shape_fields canon
put-message {n} {t} {r} deep w = one (bytes_field n (canon t r)) (rw deep refl) w.whole w.bytes

groups-some : (room n : ℕ) → 0 < length (septets_of room n)
unfolding septets_of
groups-some zero n = omega arith
groups-some (suc room) n =
    elim (nat_lt n 128)
    as (λ t. 0 < length (cond t (n ∷ []) ((n % 128 + 128) ∷ septets_of room (n / 128)))) [
      | true ↦ omega arith
      | false ↦ omega arith
    ]

field-some : (f : Field) (fields : List Field) → 0 < length (row_bytes (f ∷ fields))
unfolding row_bytes field_bytes shortest
field-some f fields =
    let tag = groups-some 9 (f.number * 8 + wire_type f.payload) in
    let own =
    length-append (shortest (f.number * 8 + wire_type f.payload)) (payload_bytes f.payload) in
    let all = length-append (field_bytes f) (row_bytes fields) in
    omega (arith, tag, own, all)

row-some : (n : ℕ) (fields : List Field) → length (row_bytes fields) ≢ 0
    → unless_no_fields n fields ≡ bytes_field n (row_bytes fields) ∷ []
unfolding row_bytes
row-some n [] e = absurd (e refl)
row-some n (f ∷ fields) e = refl

row-none : (n : ℕ) (fields : List Field) → length (row_bytes fields) ≡ 0
    → unless_no_fields n fields ≡ []
row-none n [] e = refl
row-none n (f ∷ fields) e = absurd (omega (arith, e, field-some f fields))

-- A flat message with a byte is put when it is laid as a field.
pub some-message : {n : ℕ} {t : Table} {r : Message t} {c d : Cursor} → is_flat t ≡ true
    → length (canon t r) ≢ 0 → Carries (field_bytes (bytes_field n (canon t r))) (IsMessage t r) c d
    → Puts n (message t) r c d
unfolding shape_fields canon
some-message {n} {t} {r} flat e w =
    one (bytes_field n (canon t r)) (rw flat (row-some n (table_fields t r) e)) w.whole w.bytes

-- A flat message without a byte is put by writing nothing.
pub no-message : {n : ℕ} {t : Table} {r : Message t} {c : Cursor} → is_flat t ≡ true
    → length (canon t r) ≡ 0 → IsMessage t r → Puts n (message t) r c c
unfolding shape_fields canon
no-message {n} {t} {r} flat e w = none (rw flat (row-none n (table_fields t r) e)) w

-- ---- fields of one number, one for each item

-- The items through one more index, mapped, are those before it and then the item there.
pub through-index : {X Y : Type 0} (f : X → Y) (xs : List X) (i : ℕ) (x : X) → i < length xs
    → x ≡ get_or xs i x → map f (take (i + 1) xs) ≡ map f (take i xs) ++ f x ∷ []
through-index f xs i x l e =
    rw (add-one, take-suc xs i x l)
    (map-append f (take i xs) (get_or xs i x ∷ [])
    ∙ ap (λ y. map f (take i xs) ++ f y ∷ []) (sym e))

-- What holds of each item of a list and of one item more holds of each item with that one at the
-- end.
pub all-more : {A : Type 0} (P : A → Type 0) (xs : List A) (x : A) → AllByRecursion P xs → P x
    → AllByRecursion P (xs ++ x ∷ [])
all-more P [] x h k = (k, tt)
all-more P (y ∷ xs) x h k = (h.0, all-more P xs x h.1 k)

-- A repeated field without items is carried without a byte.
pub each-none : {A : Type 0} (n : ℕ) (bytes_of : A → List ℕ) (P : A → Type 0) {c : Cursor}
    → Carries (row_bytes (map (λ x. bytes_field n (bytes_of x)) [])) (AllByRecursion P []) c c
unfolding row_bytes
each-none n bytes_of P {c} = record { bytes = lays-none c; whole = tt }

-- One more item, laid as a field after the others, is carried with them.
pub each-more : {A : Type 0} (n : ℕ) (bytes_of : A → List ℕ) (P : A → Type 0) (xs : List A) (x : A)
    {c d e : Cursor} →
    Carries (row_bytes (map (λ y. bytes_field n (bytes_of y)) xs)) (AllByRecursion P xs) c d
    → Carries (field_bytes (bytes_field n (bytes_of x))) (P x) d e →
    Carries (row_bytes (map (λ y. bytes_field n (bytes_of y)) (xs ++ x ∷ [])))
    (AllByRecursion P (xs ++ x ∷ [])) c e
each-more {A} n bytes_of P xs x {c} {d} {e} p q =
    let own : A → Field = λ y. bytes_field n (bytes_of y) in
    let one-more : row_bytes (map own (xs ++ x ∷ []))
    ≡ row_bytes (map own xs) ++ field_bytes (own x) =
    ap row_bytes (map-append own xs (x ∷ [])) ∙ row_bytes-append (map own xs) (own x ∷ [])
    ∙ ap (λ bs. row_bytes (map own xs) ++ bs) (one-field (own x)) in
    record {
      bytes =
          lays-as c e (sym one-more)
          (lays-both (row_bytes (map own xs)) (field_bytes (own x)) c d e p.bytes q.bytes);
      whole = all-more P xs x p.whole q.whole;
    }

each-messages : (n : ℕ) {V : Type 0} (t : Table) (f : V → Message t) (xs : List V)
    → shape_fields n (repeated (message t)) (map f xs) ≡ map (λ x. bytes_field n (canon t (f x))) xs
unfolding shape_fields canon
each-messages n t f [] = refl
each-messages n t f (x ∷ xs) =
    ap (λ fields. bytes_field n (row_bytes (table_fields t (f x))) ∷ fields)
    (each-messages n t f xs)

each-whole : {V : Type 0} (t : Table) (f : V → Message t) (xs : List V)
    → AllByRecursion (λ x. IsMessage t (f x)) xs → AllByRecursion (λ r. IsMessage t r) (map f xs)
each-whole t f [] h = tt
each-whole t f (x ∷ xs) h = (h.0, each-whole t f xs h.1)

-- The messages of a repeated field are put when each is laid as a field.
pub put-messages : {n : ℕ} {V : Type 0} {t : Table} (f : V → Message t) (xs : List V) {c d : Cursor}
    → Carries (row_bytes (map (λ x. bytes_field n (canon t (f x))) xs))
    (AllByRecursion (λ x. IsMessage t (f x)) xs) c d →
    Puts n (repeated (message t)) (map f xs) c d
put-messages {n} {t = t} f xs {c} {d} p = record {
  bytes = lays-as c d (ap row_bytes (sym (each-messages n t f xs))) p.bytes;
  whole = each-whole t f xs p.whole;
}
