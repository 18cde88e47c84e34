-- What is written by a table is read back by it.
use Rattle.std.proofs.Common.{◌≡◌, refl, sym, ap, ap₂, ◌∙◌, ℕ, pos, List, [], ◌∷◌, ◌++◌, length}
use Rattle.std.proofs.Common.{arith, append-nil, cond, Bool, true, false, ◌<◌, ◌≤◌, ◌%◌, ◌^◌}
use Rattle.std.proofs.Common.{flat_map, filter, map, not, if◌then◌else◌, ◌==◌, mod-eq_of_lt}
use Rattle.std.specs.Int.{w32, w64, cast_signed, cast_unsigned}
use Rattle.std.specs.Str.{is_utf8}
use Rattle.std.specs.List.{AllByRecursion}
use Rattle.std.proofs.lemmas.Bool.{eq-eqb, ne_eqb, eqb-true, lt-ltb}
use mir.Val.{SFits}
use mir.Facts.{to_z-of_z, Fits-of_z}
use Rattle.model_message.specs.Reading.{Reading, ◌>>=◌, done, each}
use Rattle.model_message.specs.Wire.{Field, Payload, varint, i64, i32, len, row}
use Rattle.model_message.specs.AnyValue.{AnyValue}
use Rattle.model_message.specs.Tables.{Shape, text, bytes, bool, uint32, int64, enum, fixed64}
use Rattle.model_message.specs.Tables.{fixed32, any, message, repeated, Table, end, ◌⦂◌◂◌, ValueOf}
use Rattle.model_message.specs.Tables.{Message}
use Rattle.model_message.specs.Messages.{PayloadReading, wire, wire_type, is_field, payloads}
use Rattle.model_message.specs.Messages.{last_number, joined_rows, read, read_table, utf8, meaning}
use Rattle.model_message.specs.Messages.{value, max_depth}
use Rattle.model_message.specs.Canon.{number_field, bytes_field, unless_empty, unless_no_fields}
use Rattle.model_message.specs.Canon.{message_field, is_flat, row_bytes, value_fields, shape_fields}
use Rattle.model_message.specs.Canon.{element_fields, table_fields, canon}
use Rattle.model_message.proofs.RowLaws.{HasPayload, HaveSpellings, row-row_bytes}

-- ---- tables that can be written: numbers rise, and only messages and values are repeated

abbrev pub IsElement : Shape → Type 0
IsElement any = Unit {0}
IsElement (message t) = Unit {0}
IsElement text = ⊥
IsElement bytes = ⊥
IsElement bool = ⊥
IsElement uint32 = ⊥
IsElement int64 = ⊥
IsElement enum = ⊥
IsElement fixed64 = ⊥
IsElement fixed32 = ⊥
IsElement (repeated s) = ⊥

abbrev mutual
  -- The shape can be written: a message by its table, and a repeated field by its elements.
  pub IsShape : Shape → Type 0
  IsShape text = Unit {0}
  IsShape bytes = Unit {0}
  IsShape bool = Unit {0}
  IsShape uint32 = Unit {0}
  IsShape int64 = Unit {0}
  IsShape enum = Unit {0}
  IsShape fixed64 = Unit {0}
  IsShape fixed32 = Unit {0}
  IsShape any = Unit {0}
  IsShape (message t) = IsTable 0 t
  IsShape (repeated s) = IsElement s × IsShape s

  -- The table can be written: its numbers rise from above `low`, are below 2^29, and each shape can
  -- be written.
  pub IsTable : ℕ → Table → Type 0
  IsTable low end = Unit {0}
  IsTable low (n ⦂ s ◂ t) = (low < n) × (n < 2 ^ 29) × IsShape s × IsTable n t

-- ---- what can be written: texts are UTF-8, and numbers and lengths have their room

abbrev mutual
  -- The value of a field can be written and read back.
  pub FitsShape : PayloadReading AnyValue → (s : Shape) → ValueOf s → Type 0
  FitsShape values text t = (is_utf8 t ≡ true) × (length t < 2 ^ 64)
  FitsShape values bytes bs = length bs < 2 ^ 64
  FitsShape values bool b = Unit {0}
  FitsShape values uint32 x = x < 2 ^ 32
  FitsShape values int64 i = SFits w64 i
  FitsShape values enum i = (k : ℕ) × (k < 2 ^ 31) × (i ≡ pos k)
  FitsShape values fixed64 x = x < 2 ^ 64
  FitsShape values fixed32 x = x < 2 ^ 32
  FitsShape values any v =
      (values (len (row_bytes (value_fields v)) ∷ []) ≡ done v)
      × (length (row_bytes (value_fields v)) < 2 ^ 64)
  FitsShape values (message t) r =
      FitsTable values t r × (length (row_bytes (table_fields t r)) < 2 ^ 64)
  FitsShape values (repeated s) xs = AllByRecursion (λ x. FitsShape values s x) xs

  -- The value of each field of a message can be written and read back.
  pub FitsTable : PayloadReading AnyValue → (t : Table) → Message t → Type 0
  FitsTable values end r = Unit {0}
  FitsTable values (n ⦂ s ◂ t) r = FitsShape values s r.0 × FitsTable values t r.1

-- ---- the fields of one number among others

payloads-append : (n : ℕ) (s : Shape) (a b : List Field)
    → payloads n s (a ++ b) ≡ payloads n s a ++ payloads n s b
unfolding payloads
payloads-append n s [] b = refl
payloads-append n s (f ∷ a) b = go (is_field n s f) (payloads-append n s a b)
  where
    go : (t : Bool) → payloads n s (a ++ b) ≡ payloads n s a ++ payloads n s b →
        map (λ f. f.payload)
        (cond t (f ∷ filter (is_field n s) (a ++ b)) (filter (is_field n s) (a ++ b)))
        ≡ map (λ f. f.payload) (cond t (f ∷ filter (is_field n s) a) (filter (is_field n s) a))
        ++ payloads n s b
    go true ih = ap (λ l. f.payload ∷ l) ih
    go false ih = ih

abbrev IsOther : ℕ → Field → Type 0
IsOther n f = f.number ≡ n → ⊥

payloads-others : (n : ℕ) (s : Shape) (fields : List Field) → AllByRecursion (IsOther n) fields
    → payloads n s fields ≡ []
unfolding payloads
payloads-others n s [] h = refl
payloads-others n s (f ∷ fields) h = rw (ne_eqb f.number n h.0) (payloads-others n s fields h.1)

same-number : (n : ℕ) → (n == n) ≡ true
same-number n = eq-eqb n n refl

-- A payload of the right wire type, under the right number, is the one payload of the field.
pub payloads-own : (n : ℕ) (s : Shape) (p : Payload) → wire_type p ≡ wire s
    → payloads n s (record { number = n; payload = p } ∷ []) ≡ p ∷ []
unfolding payloads
payloads-own n s p e = rw (same-number n, eq-eqb (wire_type p) (wire s) e) refl

-- ---- fields of smaller numbers don't count

abbrev AllUpTo : ℕ → List Field → Type 0
AllUpTo low fields = AllByRecursion (λ f. f.number ≤ low) fields

abbrev AllAbove : ℕ → List Field → Type 0
AllAbove low fields = AllByRecursion (λ f. low < f.number) fields

others-below : (low n : ℕ) → low < n → (fields : List Field) → AllUpTo low fields
    → AllByRecursion (IsOther n) fields
others-below low n l [] h = tt
others-below low n l (f ∷ fields) h = (λ e. omega (arith, h.0), others-below low n l fields h.1)

others-above : (n : ℕ) (fields : List Field) → AllAbove n fields → AllByRecursion (IsOther n) fields
others-above n [] h = tt
others-above n (f ∷ fields) h = (λ e. omega (arith, h.0), others-above n fields h.1)

above-more : (low n : ℕ) → low < n → (fields : List Field) → AllAbove n fields → AllAbove low fields
above-more low n l [] h = tt
above-more low n l (f ∷ fields) h = (omega (arith, h.0), above-more low n l fields h.1)

up-to-more : (low n : ℕ) → low < n → (fields : List Field) → AllUpTo low fields → AllUpTo n fields
up-to-more low n l [] h = tt
up-to-more low n l (f ∷ fields) h = (omega (arith, h.0), up-to-more low n l fields h.1)

abbrev HaveNumber : ℕ → List Field → Type 0
HaveNumber n fields = AllByRecursion (λ f. f.number ≡ n) fields

All-append : (P : Field → Type 0) (a b : List Field) → AllByRecursion P a → AllByRecursion P b
    → AllByRecursion P (a ++ b)
All-append P [] b h k = k
All-append P (f ∷ a) b h k = (h.0, All-append P a b h.1 k)

number-numbers : (n x : ℕ) (p : Payload) (t : Bool)
    → HaveNumber n (cond t [] (record { number = n; payload = p } ∷ []))
number-numbers n x p true = tt
number-numbers n x p false = (refl, tt)

unless_empty-numbers : (n : ℕ) (bs : List ℕ) → HaveNumber n (unless_empty n bs)
unless_empty-numbers n [] = tt
unless_empty-numbers n (b ∷ bs) = (refl, tt)

unless_no_fields-numbers : (n : ℕ) (fields : List Field) → HaveNumber n (unless_no_fields n fields)
unless_no_fields-numbers n [] = tt
unless_no_fields-numbers n (f ∷ fields) = (refl, tt)

flat-numbers : {X : Type 0} (n : ℕ) (f : X → List Field) → ((x : X) → HaveNumber n (f x))
    → (xs : List X) → HaveNumber n (flat_map f xs)
flat-numbers n f h [] = tt
flat-numbers n f h (x ∷ xs) =
    All-append (λ g. g.number ≡ n) (f x) (flat_map f xs) (h x) (flat-numbers n f h xs)

message-numbers : (n : ℕ) (fields : List Field) (t : Bool)
    → HaveNumber n (cond t (unless_no_fields n fields) (message_field n fields ∷ []))
message-numbers n fields true = unless_no_fields-numbers n fields
message-numbers n fields false = (refl, tt)

element-numbers : (n : ℕ) (s : Shape) (x : ValueOf s) → HaveNumber n (element_fields n s x)
unfolding shape_fields
element-numbers n text x = (refl, tt)
element-numbers n bytes x = (refl, tt)
element-numbers n bool x = (refl, tt)
element-numbers n uint32 x = (refl, tt)
element-numbers n int64 x = (refl, tt)
element-numbers n enum x = (refl, tt)
element-numbers n fixed64 x = (refl, tt)
element-numbers n fixed32 x = (refl, tt)
element-numbers n any x = (refl, tt)
element-numbers n (message t) x = (refl, tt)
element-numbers n (repeated s) x =
    flat-numbers n (λ y. element_fields n s y) (element-numbers n s) x

shape-numbers : (n : ℕ) (s : Shape) (x : ValueOf s) → HaveNumber n (shape_fields n s x)
unfolding shape_fields
shape-numbers n text x = unless_empty-numbers n x
shape-numbers n bytes x = unless_empty-numbers n x
shape-numbers n bool x = number-numbers n 0 _ _
shape-numbers n uint32 x = number-numbers n 0 _ _
shape-numbers n int64 x = number-numbers n 0 _ _
shape-numbers n enum x = number-numbers n 0 _ _
shape-numbers n fixed64 x = number-numbers n 0 _ _
shape-numbers n fixed32 x = number-numbers n 0 _ _
shape-numbers n any x = (refl, tt)
shape-numbers n (message t) x = message-numbers n _ (is_flat t)
shape-numbers n (repeated s) x = flat-numbers n (λ y. element_fields n s y) (element-numbers n s) x

number-above : (low n : ℕ) → low < n → (fields : List Field) → HaveNumber n fields
    → AllAbove low fields
number-above low n l [] h = tt
number-above low n l (f ∷ fields) h = (omega (arith, h.0), number-above low n l fields h.1)

number-up-to : (n : ℕ) (fields : List Field) → HaveNumber n fields → AllUpTo n fields
number-up-to n [] h = tt
number-up-to n (f ∷ fields) h = (omega (arith, h.0), number-up-to n fields h.1)

table-above : (low : ℕ) (t : Table) (r : Message t) → IsTable low t
    → AllAbove low (table_fields t r)
unfolding table_fields
table-above low end r h = tt
table-above low (n ⦂ s ◂ t) r h =
    All-append (λ g. low < g.number) (shape_fields n s r.0) (table_fields t r.1)
    (number-above low n h.0 _ (shape-numbers n s r.0))
    (above-more low n h.0 _ (table-above n t r.1 h.3))

abbrev both : {A B : Type 0} → Reading A → Reading B → Reading (A × B)
both a b = a >>= λ x. b >>= λ y. done (x, y)

read-skip : (values : PayloadReading AnyValue) (low : ℕ) (t : Table) (a b : List Field)
    → IsTable low t → AllUpTo low a → read_table values t (a ++ b) ≡ read_table values t b
unfolding read_table
read-skip values low end a b h k = refl
read-skip values low (n ⦂ s ◂ t) a b h k = ap₂ (λ p q. both p q)
    (ap (read values s)
    (payloads-append n s a b
    ∙ ap (λ l. l ++ payloads n s b) (payloads-others n s a (others-below low n h.0 a k))))
    (read-skip values n t a b h.3 (up-to-more low n h.0 a k))

-- ---- one field

-- A text that is UTF-8 is read without a fault.
pub utf8-ok : (bs : List ℕ) → is_utf8 bs ≡ true → utf8 bs ≡ done bs
utf8-ok bs e = rw e refl

text-back : (values : PayloadReading AnyValue) (n : ℕ) (t : List ℕ) → is_utf8 t ≡ true
    → read values text (payloads n text (unless_empty n t)) ≡ done t
unfolding read payloads
text-back values n [] e = utf8-ok [] e
text-back values n (b ∷ t) e =
    ap (read values text) (payloads-own n text (len (b ∷ t)) refl) ∙ utf8-ok (b ∷ t) e

octets-back : (values : PayloadReading AnyValue) (n : ℕ) (bs : List ℕ)
    → read values bytes (payloads n bytes (unless_empty n bs)) ≡ done bs
unfolding read payloads
octets-back values n [] = refl
octets-back values n (b ∷ bs) = ap (read values bytes) (payloads-own n bytes (len (b ∷ bs)) refl)

number-back : (n : ℕ) (s : Shape) (x : ℕ) → wire s ≡ 0
    → last_number (payloads n s (number_field n x)) ≡ x
unfolding payloads
number-back n s x e = go (x == 0) refl
  where
    go : (t : Bool) → (x == 0) ≡ t
        → last_number (payloads n s (cond t [] (record { number = n; payload = varint x } ∷ [])))
        ≡ x
    go true h = sym (eqb-true x 0 h)
    go false h = ap last_number (payloads-own n s (varint x) (sym e))

fixed-back : (n x : ℕ)
    → last_number
    (payloads n fixed64 (if x == 0 then [] else record { number = n; payload = i64 x } ∷ []))
    ≡ x
unfolding payloads
fixed-back n x = go (x == 0) refl
  where
    go : (t : Bool) → (x == 0) ≡ t
        → last_number (payloads n fixed64 (cond t [] (record { number = n; payload = i64 x } ∷ [])))
        ≡ x
    go true h = sym (eqb-true x 0 h)
    go false h = ap last_number (payloads-own n fixed64 (i64 x) refl)

fixed32-back : (n x : ℕ)
    → last_number
    (payloads n fixed32 (if x == 0 then [] else record { number = n; payload = i32 x } ∷ []))
    ≡ x
unfolding payloads
fixed32-back n x = go (x == 0) refl
  where
    go : (t : Bool) → (x == 0) ≡ t
        → last_number (payloads n fixed32 (cond t [] (record { number = n; payload = i32 x } ∷ [])))
        ≡ x
    go true h = sym (eqb-true x 0 h)
    go false h = ap last_number (payloads-own n fixed32 (i32 x) refl)

truth-back : (b : Bool) → not ((if b then 1 else 0) == 0) ≡ b
truth-back true = refl
truth-back false = refl

-- A payload whose bytes are a row without a fault is joined as that row.
pub joined-one : (bs : List ℕ) (fields : List Field) → row bs ≡ done fields
    → joined_rows (len bs ∷ []) ≡ done fields
unfolding joined_rows
joined-one bs fields e =
    ap (λ r. record { value = r.value ++ []; faults = (r.faults ++ []) ++ [] }) e
    ∙ ap done (append-nil fields)

-- What is read on from a written message is read on from its fields.
message-back : {A : Type 0} (next : List Field → Reading A) (n : ℕ) (s : Shape)
    (fields : List Field)
    → wire s ≡ 2 → HaveSpellings fields
    → joined_rows (payloads n s (bytes_field n (row_bytes fields) ∷ [])) >>= next ≡ next fields
message-back next n s fields e h =
    ap (λ r. r >>= next)
    (ap joined_rows (payloads-own n s (len (row_bytes fields)) (sym e))
    ∙ joined-one (row_bytes fields) fields (row-row_bytes fields h))

flat-back : {A : Type 0} (next : List Field → Reading A) (n : ℕ) (s : Shape) (fields : List Field)
    (t : Bool)
    → wire s ≡ 2 → HaveSpellings fields →
    joined_rows (payloads n s (cond t (unless_no_fields n fields) (message_field n fields ∷ [])))
    >>= next ≡ next fields
unfolding payloads joined_rows row_bytes
flat-back next n s [] true e h = refl
flat-back next n s (f ∷ fields) true e h = message-back next n s (f ∷ fields) e h
flat-back next n s fields false e h = message-back next n s fields e h

element-one : (n : ℕ) (s : Shape) (x : ValueOf s) → IsElement s
    → (p : Payload) × (payloads n s (element_fields n s x) ≡ p ∷ [])
unfolding shape_fields
element-one n text x h = absurd h
element-one n bytes x h = absurd h
element-one n bool x h = absurd h
element-one n uint32 x h = absurd h
element-one n int64 x h = absurd h
element-one n enum x h = absurd h
element-one n fixed64 x h = absurd h
element-one n fixed32 x h = absurd h
element-one n any x h = (_, payloads-own n any _ refl)
element-one n (message t) x h = (_, payloads-own n (message t) _ refl)
element-one n (repeated s) x h = absurd h

repeated-back : (values : PayloadReading AnyValue) (n : ℕ) (s : Shape) → IsElement s
    → ((x : ValueOf s) → FitsShape values s x
    → read values s (payloads n s (element_fields n s x)) ≡ done x) →
    (xs : List (ValueOf s)) → AllByRecursion (FitsShape values s) xs
    → each (λ p. read values s (p ∷ [])) (payloads n s (flat_map (λ x. element_fields n s x) xs))
    ≡ done xs
unfolding payloads
repeated-back values n s el back [] h = refl
repeated-back values n s el back (x ∷ xs) h =
    let one = element-one n s x el in
    ap (each (λ p. read values s (p ∷ [])))
    (payloads-append n s (element_fields n s x) (flat_map (λ y. element_fields n s y) xs)
    ∙ ap (λ l. l ++ payloads n s (flat_map (λ y. element_fields n s y) xs)) one.1)
    ∙ ap₂ (λ a b. a >>= λ first. b >>= λ others. done (first ∷ others))
    (ap (read values s) (sym one.1) ∙ back x h.0) (repeated-back values n s el back xs h.1)

-- ---- each field that is written has a spelling

spellings-append : (a b : List Field) → HaveSpellings a → HaveSpellings b → HaveSpellings (a ++ b)
spellings-append [] b h k = k
spellings-append (f ∷ a) b h k = (h.0, spellings-append a b h.1 k)

-- A length-delimited field whose number and length are in range has a spelling.
pub bytes-spelling : (n : ℕ) (bs : List ℕ) → 0 < n → n < 2 ^ 29 → length bs < 2 ^ 64
    → HaveSpellings (bytes_field n bs ∷ [])
bytes-spelling n bs l u k = (record { positive = l; in_range = u; payload = k }, tt)

unless_empty-spelling : (n : ℕ) (bs : List ℕ) → 0 < n → n < 2 ^ 29 → length bs < 2 ^ 64
    → HaveSpellings (unless_empty n bs)
unless_empty-spelling n [] l u k = tt
unless_empty-spelling n (b ∷ bs) l u k = bytes-spelling n (b ∷ bs) l u k

unless_no_fields-spelling : (n : ℕ) (fields : List Field) → 0 < n → n < 2 ^ 29
    → length (row_bytes fields) < 2 ^ 64 → HaveSpellings (unless_no_fields n fields)
unfolding row_bytes
unless_no_fields-spelling n [] l u k = tt
unless_no_fields-spelling n (f ∷ fields) l u k = bytes-spelling n (row_bytes (f ∷ fields)) l u k

scalar-spelling : (n : ℕ) (p : Payload) (t : Bool) → 0 < n → n < 2 ^ 29 → HasPayload p
    → HaveSpellings (cond t [] (record { number = n; payload = p } ∷ []))
scalar-spelling n p true l u k = tt
scalar-spelling n p false l u k = (record { positive = l; in_range = u; payload = k }, tt)

flat-spelling : {X : Type 0} (P : X → Type 0) (f : X → List Field)
    → ((x : X) → P x → HaveSpellings (f x)) → (xs : List X) → AllByRecursion P xs
    → HaveSpellings (flat_map f xs)
flat-spelling P f h [] k = tt
flat-spelling P f h (x ∷ xs) k =
    spellings-append (f x) (flat_map f xs) (h x k.0) (flat-spelling P f h xs k.1)

-- A truth value, as a number, fits 64 bits.
pub bit-below : (b : Bool) → (if b then 1 else 0) < 2 ^ 64
bit-below true = omega arith
bit-below false = omega arith

message-spelling : (n : ℕ) (fields : List Field) (t : Bool) → 0 < n → n < 2 ^ 29
    → length (row_bytes fields) < 2 ^ 64
    → HaveSpellings (cond t (unless_no_fields n fields) (message_field n fields ∷ []))
message-spelling n fields true l u k = unless_no_fields-spelling n fields l u k
message-spelling n fields false l u k = bytes-spelling n (row_bytes fields) l u k

own-spelling : (n : ℕ) (p : Payload) → 0 < n → n < 2 ^ 29 → HasPayload p
    → HaveSpellings (record { number = n; payload = p } ∷ [])
own-spelling n p l u k = (record { positive = l; in_range = u; payload = k }, tt)

element-spelling : (values : PayloadReading AnyValue) (n : ℕ) (s : Shape) (x : ValueOf s) → 0 < n
    → n < 2 ^ 29 → FitsShape values s x → HaveSpellings (element_fields n s x)
unfolding shape_fields
element-spelling values n text x l u h = bytes-spelling n x l u h.1
element-spelling values n bytes x l u h = bytes-spelling n x l u h
element-spelling values n bool x l u h = own-spelling n _ l u (bit-below x)
element-spelling values n uint32 x l u h = own-spelling n _ l u (omega (arith, h))
element-spelling values n int64 x l u h = own-spelling n _ l u ((Fits-of_z h).fits)
element-spelling values n enum x l u h = own-spelling n _ l u (rw h.2 (omega (arith, h.1)))
element-spelling values n fixed64 x l u h = own-spelling n _ l u h
element-spelling values n fixed32 x l u h = own-spelling n _ l u h
element-spelling values n any x l u h = bytes-spelling n _ l u h.1
element-spelling values n (message t) x l u h = bytes-spelling n _ l u h.1
element-spelling values n (repeated s) x l u h =
    flat-spelling (FitsShape values s) (λ y. element_fields n s y)
    (λ y k. element-spelling values n s y l u k) x h

shape-spelling : (values : PayloadReading AnyValue) (n : ℕ) (s : Shape) (x : ValueOf s) → 0 < n
    → n < 2 ^ 29 → FitsShape values s x → HaveSpellings (shape_fields n s x)
unfolding shape_fields
shape-spelling values n text x l u h = unless_empty-spelling n x l u h.1
shape-spelling values n bytes x l u h = unless_empty-spelling n x l u h
shape-spelling values n bool x l u h = scalar-spelling n _ _ l u (bit-below x)
shape-spelling values n uint32 x l u h = scalar-spelling n _ _ l u (omega (arith, h))
shape-spelling values n int64 x l u h = scalar-spelling n _ _ l u ((Fits-of_z h).fits)
shape-spelling values n enum x l u h = scalar-spelling n _ _ l u (rw h.2 (omega (arith, h.1)))
shape-spelling values n fixed64 x l u h = scalar-spelling n _ _ l u h
shape-spelling values n fixed32 x l u h = scalar-spelling n _ _ l u h
shape-spelling values n any x l u h = bytes-spelling n _ l u h.1
shape-spelling values n (message t) x l u h = message-spelling n _ (is_flat t) l u h.1
shape-spelling values n (repeated s) x l u h =
    flat-spelling (FitsShape values s) (λ y. element_fields n s y)
    (λ y k. element-spelling values n s y l u k) x h

table-spelling : (values : PayloadReading AnyValue) (low : ℕ) (t : Table) (r : Message t)
    → IsTable low t → FitsTable values t r → HaveSpellings (table_fields t r)
unfolding table_fields
table-spelling values low end r h k = tt
table-spelling values low (n ⦂ s ◂ t) r h k =
    spellings-append (shape_fields n s r.0) (table_fields t r.1)
    (shape-spelling values n s r.0 (omega (arith, h.0)) h.1 k.0)
    (table-spelling values n t r.1 h.3 k.1)

-- ---- what is written is read back

enumeration-back : (k : ℕ) → k < 2 ^ 31 → cast_signed w32 (k % 2 ^ 32) ≡ pos k
enumeration-back k l =
    let low : k < 2 ^ 32 = omega (arith, l) in rw (mod-eq_of_lt low, lt-ltb k (2 ^ 31) l) refl

mutual
  unfolding read shape_fields

  -- What is written of a field of a table is read back as its value.
  pub shape-back : (values : PayloadReading AnyValue) (n : ℕ) (s : Shape) (x : ValueOf s)
      → IsShape s → FitsShape values s x
      → read values s (payloads n s (shape_fields n s x)) ≡ done x
  shape-back values n text x w h = text-back values n x h.0
  shape-back values n bytes x w h = octets-back values n x
  shape-back values n bool x w h =
      ap (λ z. done (not (z == 0))) (number-back n bool (if x then 1 else 0) refl)
      ∙ ap done (truth-back x)
  shape-back values n uint32 x w h =
      ap (λ z. done (z % 2 ^ 32)) (number-back n uint32 x refl) ∙ ap done (mod-eq_of_lt h)
  shape-back values n int64 x w h =
      ap (λ z. done (cast_signed w64 z)) (number-back n int64 (cast_unsigned w64 x) refl)
      ∙ ap done (to_z-of_z h)
  shape-back values n enum x w h =
      ap (λ z. done (cast_signed w32 (z % 2 ^ 32))) (number-back n enum (cast_unsigned w64 x) refl)
      ∙ ap done
      (ap (λ z. cast_signed w32 (cast_unsigned w64 z % 2 ^ 32)) h.2 ∙ enumeration-back h.0 h.1
      ∙ sym h.2)
  shape-back values n fixed64 x w h = ap done (fixed-back n x)
  shape-back values n fixed32 x w h = ap done (fixed32-back n x)
  shape-back values n any x w h = ap values (payloads-own n any _ refl) ∙ h.0
  shape-back values n (message t) x w h =
      flat-back (read_table values t) n (message t) (table_fields t x) (is_flat t) refl
      (table-spelling values 0 t x w h.0)
      ∙ table-back values 0 t x w h.0
  shape-back values n (repeated s) x w h =
      repeated-back values n s w.0 (λ y k. element-back values n s y w.0 w.1 k) x h

  -- What is written of an element of a repeated field is read back as its value.
  pub element-back : (values : PayloadReading AnyValue) (n : ℕ) (s : Shape) (x : ValueOf s)
      → IsElement s → IsShape s → FitsShape values s x
      → read values s (payloads n s (element_fields n s x)) ≡ done x
  element-back values n text x el w h = absurd el
  element-back values n bytes x el w h = absurd el
  element-back values n bool x el w h = absurd el
  element-back values n uint32 x el w h = absurd el
  element-back values n int64 x el w h = absurd el
  element-back values n enum x el w h = absurd el
  element-back values n fixed64 x el w h = absurd el
  element-back values n fixed32 x el w h = absurd el
  element-back values n any x el w h = ap values (payloads-own n any _ refl) ∙ h.0
  element-back values n (message t) x el w h =
      message-back (read_table values t) n (message t) (table_fields t x) refl
      (table-spelling values 0 t x w h.0)
      ∙ table-back values 0 t x w h.0
  element-back values n (repeated s) x el w h = absurd el

  -- The fields that are written of a message are read back as the message.
  pub table-back : (values : PayloadReading AnyValue) (low : ℕ) (t : Table) (r : Message t)
      → IsTable low t → FitsTable values t r → read_table values t (table_fields t r) ≡ done r
  table-back values low end r h k = refl
  table-back values low (n ⦂ s ◂ t) r h k = ap₂ (λ p q. both p q)
      (ap (read values s)
      (payloads-append n s (shape_fields n s r.0) (table_fields t r.1)
      ∙ ap (λ l. payloads n s (shape_fields n s r.0) ++ l)
      (payloads-others n s _ (others-above n _ (table-above n t r.1 h.3)))
      ∙ append-nil _)
      ∙ shape-back values n s r.0 h.2 k.0)
      (read-skip values n t (shape_fields n s r.0) (table_fields t r.1) h.3
      (number-up-to n _ (shape-numbers n s r.0))
      ∙ table-back values n t r.1 h.3 k.1)

-- The bytes that a message is written as mean the message.
pub canon-means : (t : Table) (r : Message t) → IsTable 0 t → FitsTable (value max_depth) t r
    → meaning t (canon t r) ≡ done r
unfolding meaning canon
canon-means t r h k =
    ap (λ x. x >>= read_table (value max_depth) t)
    (row-row_bytes (table_fields t r) (table-spelling (value max_depth) 0 t r h k))
    ∙ table-back (value max_depth) 0 t r h k
