-- What is in some bytes is no longer than they are.
use Rattle.std.proofs.Common.{◌≡◌, ap, ◌∙◌, ℕ, zero, suc, ◌<◌, ◌+◌, ◌*◌, ◌^◌, List, [], ◌∷◌, ◌++◌}
use Rattle.std.proofs.Common.{length, arith, flat_map, nat_lt, cond, Bool, true, false, append-nil}
use Rattle.std.specs.List.{AllByRecursion}
use Rattle.std.proofs.lemmas.List.{length-append}
use Rattle.std.proofs.lemmas.Bool.{false≢true, and_parts, ltb-true}
use Rattle.model_message.specs.AnyValue.{AnyValue, AnyValues, no_values, KeyValues, no_pairs, pair}
use Rattle.model_message.specs.AnyValue as protocol
use Rattle.model_message.specs.Wire.{Field}
use Rattle.model_message.specs.Tables.{Shape, text, bytes, bool, uint32, int64, enum, fixed64}
use Rattle.model_message.specs.Tables.{fixed32, any, message, repeated, Table, end, ◌⦂◌◂◌, ValueOf}
use Rattle.model_message.specs.Tables.{Message, is_element, is_shape, is_table}
use Rattle.model_message.specs.Messages.{value, max_depth, meaning}
use Rattle.model_message.specs.Reading.{done}
use Rattle.model_message.specs.Canon.{shortest, payload_bytes, bytes_field, unless_empty}
use Rattle.model_message.specs.Canon.{unless_no_fields, message_field, is_flat, field_bytes}
use Rattle.model_message.specs.Canon.{row_bytes, value_fields, values_fields, pairs_fields}
use Rattle.model_message.specs.Canon.{shape_fields, element_fields, table_fields, canon}
use Rattle.model_message.specs.Whole.{EachValue, EachPair, IsMember, IsValue, IsWhole, IsMessage}
use Rattle.model_message.proofs.ReadBack.{FitsShape, FitsTable, IsElement, IsShape, IsTable}
use Rattle.model_message.proofs.ReadBack.{canon-means}
use Rattle.model_message.proofs.ValueBack.{AllValues, AllPairs, FitsMember, FitsValue, value-back}

size : List Field → ℕ
size fields = length (row_bytes fields)

size-append : (a b : List Field) → size (a ++ b) ≡ size a + size b
unfolding size row_bytes
size-append [] b = omega arith
size-append (f ∷ a) b =
    length-append (field_bytes f) (row_bytes (a ++ b))
    ∙ ap (λ n. length (field_bytes f) + n) (size-append a b)
    ∙ (let e : length (field_bytes f ++ row_bytes a)
    ≡ length (field_bytes f) + length (row_bytes a) =
    length-append (field_bytes f) (row_bytes a) in
    omega (arith, e))

size-left : (a b : List Field) (k : ℕ) → size (a ++ b) < k → size a < k
size-left a b k l = let e = size-append a b in omega (arith, e, l)

size-right : (a b : List Field) (k : ℕ) → size (a ++ b) < k → size b < k
size-right a b k l = let e = size-append a b in omega (arith, e, l)

-- What a field holds is shorter than the field.
size-content : (n : ℕ) (bs : List ℕ) (k : ℕ) → size (bytes_field n bs ∷ []) < k → length bs < k
unfolding size row_bytes field_bytes payload_bytes
size-content n bs k l =
    let outer : length ((shortest (n * 8 + 2) ++ (shortest (length bs) ++ bs)) ++ [])
    ≡ length (shortest (n * 8 + 2) ++ (shortest (length bs) ++ bs)) =
    ap length (append-nil _) in
    let first : length (shortest (n * 8 + 2) ++ (shortest (length bs) ++ bs))
    ≡ length (shortest (n * 8 + 2)) + length (shortest (length bs) ++ bs) =
    length-append (shortest (n * 8 + 2)) (shortest (length bs) ++ bs) in
    let second : length (shortest (length bs) ++ bs) ≡ length (shortest (length bs)) + length bs =
    length-append (shortest (length bs)) bs in
    omega (arith, l, outer, first, second)

size-text : (n : ℕ) (t : List ℕ) (k : ℕ) → size (unless_empty n t) < k → length t < k
unfolding size row_bytes
size-text n [] k l = l
size-text n (b ∷ t) k l = size-content n (b ∷ t) k l

size-message : (n : ℕ) (fields : List Field) (t : Bool) (k : ℕ)
    → size (cond t (unless_no_fields n fields) (message_field n fields ∷ [])) < k
    → length (row_bytes fields) < k
unfolding size row_bytes
size-message n [] true k l = l
size-message n (f ∷ fields) true k l = size-content n (field_bytes f ++ row_bytes fields) k l
size-message n fields false k l = size-content n (row_bytes fields) k l

-- ---- values

all-values : (P Q : AnyValue → Type 0)
    → ((v : AnyValue) → P v → size (value_fields v) < 2 ^ 64 → Q v) → (vs : AnyValues)
    → EachValue P vs → size (values_fields vs) < 2 ^ 64 → AllValues Q vs
unfolding value_fields size
all-values P Q ih no_values h l = tt
all-values P Q ih (protocol.value v vs) h l =
    let own : size (value_fields v) < 2 ^ 64 =
    size-content 1 (row_bytes (value_fields v)) _
    (size-left (bytes_field 1 (row_bytes (value_fields v)) ∷ []) (values_fields vs) _ l) in (
      ih v h.0 own,
      own,
      all-values P Q ih vs h.1
          (size-right (bytes_field 1 (row_bytes (value_fields v)) ∷ []) (values_fields vs) _ l),
    )

all-pairs : (P Q : AnyValue → Type 0)
    → ((v : AnyValue) → P v → size (value_fields v) < 2 ^ 64 → Q v) → (ps : KeyValues)
    → EachPair P ps → size (pairs_fields ps) < 2 ^ 64 → AllPairs Q ps
unfolding value_fields size shape_fields
all-pairs P Q ih no_pairs h l = tt
all-pairs P Q ih (pair k v ps) h l =
    let key : List Field = unless_empty 1 k in
    let held : List Field = bytes_field 2 (row_bytes (value_fields v)) ∷ [] in
    let both : size (unless_empty 1 k ++ bytes_field 2 (row_bytes (value_fields v)) ∷ []) < 2 ^ 64 =
    size-content 1 _ _
    (size-left
    (bytes_field 1 (row_bytes (unless_empty 1 k ++ bytes_field 2 (row_bytes (value_fields v)) ∷ []))
    ∷ [])
    (pairs_fields ps) _ l) in
    let own : size (value_fields v) < 2 ^ 64 =
    size-content 2 (row_bytes (value_fields v)) _
    (size-right (unless_empty 1 k) (bytes_field 2 (row_bytes (value_fields v)) ∷ []) _ both) in (
      (
        h.0,
        size-text 1 k _
            (size-left (unless_empty 1 k) (bytes_field 2 (row_bytes (value_fields v)) ∷ []) _ both),
      ),
      ih v h.1 own,
      own,
      both,
      all-pairs P Q ih ps h.2
          (size-right (bytes_field 1
          (row_bytes (unless_empty 1 k ++ bytes_field 2 (row_bytes (value_fields v)) ∷ []))
          ∷ [])
          (pairs_fields ps) _ l),
    )

fits-member : (P Q : AnyValue → Type 0)
    → ((v : AnyValue) → P v → size (value_fields v) < 2 ^ 64 → Q v) → (v : AnyValue) → IsMember P v
    → size (value_fields v) < 2 ^ 64 → FitsMember Q v
unfolding value_fields
fits-member P Q ih AnyValue.none h l = tt
fits-member P Q ih (AnyValue.text t) h l = (h, size-content 1 t _ l)
fits-member P Q ih (AnyValue.bool b) h l = tt
fits-member P Q ih (AnyValue.int i) h l = h
fits-member P Q ih (AnyValue.double d) h l = h
fits-member P Q ih (AnyValue.array vs) h l =
    let own : size (values_fields vs) < 2 ^ 64 = unfold size in
    size-content 5 (row_bytes (values_fields vs)) _ l in (
      all-values P Q ih vs h own,
      unfold size in
          own,
    )
fits-member P Q ih (AnyValue.pairs ps) h l =
    let own : size (pairs_fields ps) < 2 ^ 64 = unfold size in
    size-content 6 (row_bytes (pairs_fields ps)) _ l in (
      all-pairs P Q ih ps h own,
      unfold size in
          own,
    )
fits-member P Q ih (AnyValue.bytes bs) h l = size-content 7 bs _ l

fits-value : (depth : ℕ) (v : AnyValue) → IsValue depth v → size (value_fields v) < 2 ^ 64
    → FitsValue depth v
unfolding IsValue FitsValue
fits-value zero v h l = h
fits-value (suc depth) v h l =
    fits-member (IsValue depth) (FitsValue depth) (fits-value depth) v h l

-- ---- messages

all-fit : {X : Type 0} (P Q : X → Type 0) (f : X → List Field)
    → ((x : X) → P x → size (f x) < 2 ^ 64 → Q x) → (xs : List X) → AllByRecursion P xs
    → size (flat_map f xs) < 2 ^ 64 → AllByRecursion Q xs
all-fit P Q f each [] h l = tt
all-fit P Q f each (x ∷ xs) h l = (
  each x h.0 (size-left (f x) (flat_map f xs) _ l),
  all-fit P Q f each xs h.1 (size-right (f x) (flat_map f xs) _ l),
)

mutual
  unfolding shape_fields size

  shape-fits : (n : ℕ) (s : Shape) (x : ValueOf s) → IsWhole s x
      → size (shape_fields n s x) < 2 ^ 64 → FitsShape (value max_depth) s x
  shape-fits n text x h l = (h, size-text n x _ l)
  shape-fits n bytes x h l = size-text n x _ l
  shape-fits n bool x h l = tt
  shape-fits n uint32 x h l = h
  shape-fits n int64 x h l = h
  shape-fits n enum x h l = h
  shape-fits n fixed64 x h l = h
  shape-fits n fixed32 x h l = h
  shape-fits n any x h l =
      let own : length (row_bytes (value_fields x)) < 2 ^ 64 =
      size-content n (row_bytes (value_fields x)) _ l in
      (value-back max_depth x (fits-value max_depth x h own), own)
  shape-fits n (message t) x h l =
      let own : length (row_bytes (table_fields t x)) < 2 ^ 64 =
      size-message n (table_fields t x) (is_flat t) _ l in
      (table-fits t x h own, own)
  shape-fits n (repeated s) x h l =
      all-fit (λ y. IsWhole s y) (λ y. FitsShape (value max_depth) s y) (λ y. element_fields n s y)
      (λ y k m. element-fits n s y k m) x h l

  element-fits : (n : ℕ) (s : Shape) (x : ValueOf s) → IsWhole s x
      → size (element_fields n s x) < 2 ^ 64 → FitsShape (value max_depth) s x
  element-fits n text x h l = (h, size-content n x _ l)
  element-fits n bytes x h l = size-content n x _ l
  element-fits n bool x h l = tt
  element-fits n uint32 x h l = h
  element-fits n int64 x h l = h
  element-fits n enum x h l = h
  element-fits n fixed64 x h l = h
  element-fits n fixed32 x h l = h
  element-fits n any x h l =
      let own : length (row_bytes (value_fields x)) < 2 ^ 64 =
      size-content n (row_bytes (value_fields x)) _ l in
      (value-back max_depth x (fits-value max_depth x h own), own)
  element-fits n (message t) x h l =
      let own : length (row_bytes (table_fields t x)) < 2 ^ 64 =
      size-content n (row_bytes (table_fields t x)) _ l in
      (table-fits t x h own, own)
  element-fits n (repeated s) x h l =
      all-fit (λ y. IsWhole s y) (λ y. FitsShape (value max_depth) s y) (λ y. element_fields n s y)
      (λ y k m. element-fits n s y k m) x h l

  table-fits : (t : Table) (r : Message t) → IsMessage t r → size (table_fields t r) < 2 ^ 64
      → FitsTable (value max_depth) t r
  table-fits end r h l = tt
  table-fits (n ⦂ s ◂ t) r h l = (
    shape-fits n s r.0 h.0 (size-left (shape_fields n s r.0) (table_fields t r.1) _ l),
    table-fits t r.1 h.1 (size-right (shape_fields n s r.0) (table_fields t r.1) _ l),
  )

to-element : (s : Shape) → is_element s ≡ true → IsElement s
to-element any h = tt
to-element (message t) h = tt
to-element text h = absurd (false≢true h)
to-element bytes h = absurd (false≢true h)
to-element bool h = absurd (false≢true h)
to-element uint32 h = absurd (false≢true h)
to-element int64 h = absurd (false≢true h)
to-element enum h = absurd (false≢true h)
to-element fixed64 h = absurd (false≢true h)
to-element fixed32 h = absurd (false≢true h)
to-element (repeated s) h = absurd (false≢true h)

mutual
  to-shape : (s : Shape) → is_shape s ≡ true → IsShape s
  to-shape text h = tt
  to-shape bytes h = tt
  to-shape bool h = tt
  to-shape uint32 h = tt
  to-shape int64 h = tt
  to-shape enum h = tt
  to-shape fixed64 h = tt
  to-shape fixed32 h = tt
  to-shape any h = tt
  to-shape (message t) h = to-table 0 t h
  to-shape (repeated s) h =
      let p = and_parts (is_element s) (is_shape s) h in (to-element s p.0, to-shape s p.1)

  to-table : (low : ℕ) (t : Table) → is_table low t ≡ true → IsTable low t
  to-table low end h = tt
  to-table low (n ⦂ s ◂ t) h =
      let p = and_parts (nat_lt low n) _ h in
      let q = and_parts (nat_lt n (2 ^ 29)) _ p.1 in
      let r = and_parts (is_shape s) (is_table n t) q.1 in
      (ltb-true low n p.0, ltb-true n (2 ^ 29) q.0, to-shape s r.0, to-table n t r.1)

-- The bytes that a message is written as mean the message.
pub canon-reads : (t : Table) (r : Message t) → is_table 0 t ≡ true → IsMessage t r
    → length (canon t r) < 2 ^ 64 → meaning t (canon t r) ≡ done r
unfolding canon size
canon-reads t r w h l = canon-means t r (to-table 0 t w) (table-fits t r h l)
