-- A value that is written is read back, where it isn't nested too deep.
use Rattle.std.proofs.Common.{◌≡◌, refl, sym, ap, ◌∙◌, ℕ, List, [], ◌∷◌, ◌++◌, length, arith, ◌<◌}
use Rattle.std.proofs.Common.{◌^◌, suc, zero, filter, reverse, is_some, Bool, true, false}
use Rattle.std.proofs.Common.{if◌then◌else◌}
use Rattle.std.specs.Int.{w64}
use Rattle.std.specs.Str.{is_utf8}
use Rattle.std.specs.List.{AllByRecursion}
use mir.Val.{SFits}
use mir.Facts.{Fits-of_z, to_z-of_z}
use Rattle.model_message.specs.Reading.{◌>>=◌, done}
use Rattle.model_message.specs.Wire.{varint, len}
use Rattle.model_message.specs.AnyValue.{AnyValue, AnyValues, no_values, KeyValues, no_pairs, pair}
use Rattle.model_message.specs.AnyValue.{as_values, as_pairs}
use Rattle.model_message.specs.AnyValue as protocol
use Rattle.model_message.specs.Tables.{Table, bool, any, message, Message, key_value, array_value}
use Rattle.model_message.specs.Tables.{key_value_list}
use Rattle.model_message.specs.Messages.{PayloadReading, read, value, value_of, member_of}
use Rattle.model_message.specs.Canon.{bytes_field, unless_empty, row_bytes, value_fields}
use Rattle.model_message.specs.Canon.{values_fields, pairs_fields, shape_fields, table_fields}
use Rattle.model_message.proofs.RowLaws.{HaveSpellings, row-row_bytes}
use Rattle.model_message.proofs.ReadBack.{utf8-ok, IsTable, FitsShape, FitsTable, joined-one}
use Rattle.model_message.proofs.ReadBack.{payloads-own, element-back, bytes-spelling, bit-below}

-- the values of an array, and the pairs of a list of pairs, as lists
abbrev pub list_of : AnyValues → List AnyValue
list_of no_values = []
list_of (protocol.value v vs) = v ∷ list_of vs

abbrev pub pairs_of : KeyValues → List (Message key_value)
pairs_of no_pairs = []
pairs_of (pair k v ps) = (k, (v, tt)) ∷ pairs_of ps

as_values-list_of : (vs : AnyValues) → as_values (list_of vs) ≡ vs
as_values-list_of no_values = refl
as_values-list_of (protocol.value v vs) = ap (protocol.value v) (as_values-list_of vs)

as_pairs-pairs_of : (ps : KeyValues) → as_pairs (pairs_of ps) ≡ ps
as_pairs-pairs_of no_pairs = refl
as_pairs-pairs_of (pair k v ps) = ap (pair k v) (as_pairs-pairs_of ps)

-- Arrays and lists of pairs are written as their tables say.
values-as-table : (vs : AnyValues) → values_fields vs ≡ table_fields array_value (list_of vs, tt)
unfolding value_fields table_fields
values-as-table no_values = refl
values-as-table (protocol.value v vs) =
    ap (λ l. bytes_field 1 (row_bytes (value_fields v)) ∷ l) (values-as-table vs)

pairs-as-table : (ps : KeyValues) → pairs_fields ps ≡ table_fields key_value_list (pairs_of ps, tt)
unfolding value_fields table_fields
pairs-as-table no_pairs = refl
pairs-as-table (pair k v ps) =
    ap (λ l.
    bytes_field 1 (row_bytes (unless_empty 1 k ++ bytes_field 2 (row_bytes (value_fields v)) ∷ []))
    ∷ l)
    (pairs-as-table ps)

-- ---- what can be written, with a number of levels

abbrev pub AllValues : (AnyValue → Type 0) → AnyValues → Type 0
AllValues P no_values = Unit {0}
AllValues P (protocol.value v vs) =
    P v × (length (row_bytes (value_fields v)) < 2 ^ 64) × AllValues P vs

abbrev pub AllPairs : (AnyValue → Type 0) → KeyValues → Type 0
AllPairs P no_pairs = Unit {0}
AllPairs P (pair k v ps) =
    ((is_utf8 k ≡ true) × (length k < 2 ^ 64)) × P v
    × (length (row_bytes (value_fields v)) < 2 ^ 64)
    × (length (row_bytes (table_fields key_value (k, (v, tt)))) < 2 ^ 64) × AllPairs P ps

abbrev pub FitsMember : (AnyValue → Type 0) → AnyValue → Type 0
FitsMember P AnyValue.none = Unit {0}
FitsMember P (AnyValue.text t) = (is_utf8 t ≡ true) × (length t < 2 ^ 64)
FitsMember P (AnyValue.bool b) = Unit {0}
FitsMember P (AnyValue.int i) = SFits w64 i
FitsMember P (AnyValue.double d) = d < 2 ^ 64
FitsMember P (AnyValue.array vs) = AllValues P vs × (length (row_bytes (values_fields vs)) < 2 ^ 64)
FitsMember P (AnyValue.pairs ps) = AllPairs P ps × (length (row_bytes (pairs_fields ps)) < 2 ^ 64)
FitsMember P (AnyValue.bytes bs) = length bs < 2 ^ 64

unfoldable pub FitsValue : ℕ → AnyValue → Type 0
FitsValue zero v = ⊥
FitsValue (suc depth) v = FitsMember (FitsValue depth) v

member-spelling : (P : AnyValue → Type 0) (v : AnyValue) → FitsMember P v
    → HaveSpellings (value_fields v)
unfolding value_fields
member-spelling P AnyValue.none h = tt
member-spelling P (AnyValue.text t) h = bytes-spelling 1 t (omega arith) (omega arith) h.1
member-spelling P (AnyValue.bool b) h =
    (record { positive = omega arith; in_range = omega arith; payload = bit-below b }, tt)
member-spelling P (AnyValue.int i) h =
    (record { positive = omega arith; in_range = omega arith; payload = (Fits-of_z h).fits }, tt)
member-spelling P (AnyValue.double d) h =
    (record { positive = omega arith; in_range = omega arith; payload = h }, tt)
member-spelling P (AnyValue.array vs) h = bytes-spelling 5 _ (omega arith) (omega arith) h.1
member-spelling P (AnyValue.pairs ps) h = bytes-spelling 6 _ (omega arith) (omega arith) h.1
member-spelling P (AnyValue.bytes bs) h = bytes-spelling 7 bs (omega arith) (omega arith) h

values-fit : (deeper : PayloadReading AnyValue) (P : AnyValue → Type 0)
    → ((v : AnyValue) → P v → deeper (len (row_bytes (value_fields v)) ∷ []) ≡ done v)
    → (vs : AnyValues) → AllValues P vs → AllByRecursion (FitsShape deeper any) (list_of vs)
values-fit deeper P back no_values h = tt
values-fit deeper P back (protocol.value v vs) h =
    ((back v h.0, h.1), values-fit deeper P back vs h.2)

pairs-fit : (deeper : PayloadReading AnyValue) (P : AnyValue → Type 0)
    → ((v : AnyValue) → P v → deeper (len (row_bytes (value_fields v)) ∷ []) ≡ done v)
    → (ps : KeyValues) → AllPairs P ps
    → AllByRecursion (FitsShape deeper (message key_value)) (pairs_of ps)
pairs-fit deeper P back no_pairs h = tt
pairs-fit deeper P back (pair k v ps) h =
    (((h.0, ((back v h.1, h.2), tt)), h.3), pairs-fit deeper P back ps h.4)

array_value-table : IsTable 0 array_value
array_value-table = (omega arith, omega arith, (tt, tt), tt)

key_value_list-table : IsTable 0 key_value_list
key_value_list-table = (
  omega arith,
  omega arith,
  (tt, (omega arith, omega arith, tt, (omega arith, omega arith, tt, tt))),
  tt,
)

-- A message that is written is read back from its payload.
message-read : (values : PayloadReading AnyValue) (t : Table) (r : Message t) → IsTable 0 t
    → FitsTable values t r → length (row_bytes (table_fields t r)) < 2 ^ 64
    → read values (message t) (len (row_bytes (table_fields t r)) ∷ []) ≡ done r
unfolding shape_fields
message-read values t r w h l =
    ap (read values (message t))
    (sym (payloads-own 1 (message t) (len (row_bytes (table_fields t r))) refl))
    ∙ element-back values 1 (message t) r tt w (h, l)

array-read : (deeper : PayloadReading AnyValue) (P : AnyValue → Type 0)
    → ((v : AnyValue) → P v → deeper (len (row_bytes (value_fields v)) ∷ []) ≡ done v) →
    (vs : AnyValues) → AllValues P vs → length (row_bytes (values_fields vs)) < 2 ^ 64
    → read deeper (message array_value) (len (row_bytes (values_fields vs)) ∷ [])
    ≡ done (list_of vs, tt)
array-read deeper P back vs h l =
    rw (values-as-table vs)
    (message-read deeper array_value (list_of vs, tt) array_value-table
    (values-fit deeper P back vs h, tt) (rw values-as-table at l))

pairs-read : (deeper : PayloadReading AnyValue) (P : AnyValue → Type 0)
    → ((v : AnyValue) → P v → deeper (len (row_bytes (value_fields v)) ∷ []) ≡ done v) →
    (ps : KeyValues) → AllPairs P ps → length (row_bytes (pairs_fields ps)) < 2 ^ 64
    → read deeper (message key_value_list) (len (row_bytes (pairs_fields ps)) ∷ [])
    ≡ done (pairs_of ps, tt)
pairs-read deeper P back ps h l =
    rw (pairs-as-table ps)
    (message-read deeper key_value_list (pairs_of ps, tt) key_value_list-table
    (pairs-fit deeper P back ps h, tt) (rw pairs-as-table at l))

truth-read : (deeper : PayloadReading AnyValue) (b : Bool)
    → read deeper bool (varint (if b then 1 else 0) ∷ [])
    >>= (λ x. done (AnyValue.bool x)) ≡ done (AnyValue.bool b)
unfolding read
truth-read deeper true = refl
truth-read deeper false = refl

members-back : (deeper : PayloadReading AnyValue) (P : AnyValue → Type 0)
    → ((v : AnyValue) → P v → deeper (len (row_bytes (value_fields v)) ∷ []) ≡ done v) →
    (v : AnyValue) → FitsMember P v
    → value_of deeper (reverse (filter (λ f. is_some (member_of f)) (value_fields v))) ≡ done v
unfolding value_fields read
members-back deeper P back AnyValue.none h = refl
members-back deeper P back (AnyValue.text t) h =
    ap (λ r. r >>= λ x. done (AnyValue.text x)) (utf8-ok t h.0)
members-back deeper P back (AnyValue.bool b) h = truth-read deeper b
members-back deeper P back (AnyValue.int i) h = ap (λ z. done (AnyValue.int z)) (to_z-of_z h)
members-back deeper P back (AnyValue.double d) h = refl
members-back deeper P back (AnyValue.array vs) h =
    ap (λ r. r >>= λ x. done (AnyValue.array (as_values x.0))) (array-read deeper P back vs h.0 h.1)
    ∙ ap (λ z. done (AnyValue.array z)) (as_values-list_of vs)
members-back deeper P back (AnyValue.pairs ps) h =
    ap (λ r. r >>= λ x. done (AnyValue.pairs (as_pairs x.0))) (pairs-read deeper P back ps h.0 h.1)
    ∙ ap (λ z. done (AnyValue.pairs z)) (as_pairs-pairs_of ps)
members-back deeper P back (AnyValue.bytes bs) h = refl

-- A value that fits is read back from the bytes that it is written as.
pub value-back : (depth : ℕ) (v : AnyValue) → FitsValue depth v
    → value depth (len (row_bytes (value_fields v)) ∷ []) ≡ done v
unfolding value FitsValue
value-back zero v h = absurd h
value-back (suc depth) v h =
    ap (λ r.
    r >>= λ fields. value_of (value depth) (reverse (filter (λ f. is_some (member_of f)) fields)))
    (joined-one (row_bytes (value_fields v)) (value_fields v)
    (row-row_bytes (value_fields v) (member-spelling (FitsValue depth) v h)))
    ∙ members-back (value depth) (FitsValue depth) (value-back depth) v h
