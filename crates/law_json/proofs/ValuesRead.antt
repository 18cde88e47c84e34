-- The fields that a value is in JSON are read as the value that comes back.
use Rattle.std.proofs.Common.{◌≡◌, refl, ap, ap₂, ◌∙◌, ℕ, zero, suc, ◌<◌, ◌^◌, Bool, true, false}
use Rattle.std.proofs.Common.{List, [], ◌∷◌, length, arith, filter, reverse, is_some, if◌then◌else◌}
use Rattle.std.specs.Prelude.{from_bits, is_nan}
use Rattle.std.specs.Float.{binary64}
use Rattle.std.specs.Str.{is_utf8}
use mir.Facts.{Fits-of_z, to_z-of_z}
use Rattle.model_message.specs.AnyValue as protocol
use Rattle.model_message.specs.AnyValue.{AnyValue, AnyValues, no_values, KeyValues, no_pairs, pair}
use Rattle.model_message.specs.AnyValue.{as_values, as_pairs}
use Rattle.model_message.specs.Reading.{◌>>=◌, done, each}
use Rattle.model_message.specs.Wire.{Field, varint, len}
use Rattle.model_message.specs.Tables.{Message, bool, any, message, repeated, key_value}
use Rattle.model_message.specs.Tables.{array_value}
use Rattle.model_message.specs.Tables.{key_value_list}
use Rattle.model_message.specs.Messages.{PayloadReading, read, read_table, payloads, value}
use Rattle.model_message.specs.Messages.{joined_rows, value_of}
use Rattle.model_message.specs.Messages.{member_of}
use Rattle.model_message.specs.Canon.{bytes_field, row_bytes}
use Rattle.model_message.specs.Whole.{EachValue, EachPair}
use Rattle.model_message.proofs.RowLaws.{HasPayload, HaveSpellings, row-row_bytes}
use Rattle.model_message.proofs.ReadBack.{utf8-ok, joined-one}
use Rattle.otlp_json.specs.Numbers.{nan_bits}
use Rattle.law_json.specs.Back.{value_back, values_back, pairs_back, double_back}
use Rattle.law_json.specs.Sound.{IsPairValue, IsSoundMember, IsSoundValue}
use Rattle.law_json.proofs.Rows.{both, bytes_below, message_read, spelled_bytes}
use Rattle.law_json.proofs.Values.{pair_row, pairs_row, value_fields, value_row, values_row}

-- ---- lists

-- the values of an array, and the pairs of a list of pairs, as they come back
abbrev list_back : AnyValues → List AnyValue
list_back no_values = []
list_back (protocol.value v vs) = value_back v ∷ list_back vs

abbrev pub pairs_list : KeyValues → List (Message key_value)
pairs_list no_pairs = []
pairs_list (pair k v ps) = (k, (value_back v, tt)) ∷ pairs_list ps

as_list_back : (vs : AnyValues) → as_values (list_back vs) ≡ values_back vs
unfolding value_back
as_list_back no_values = refl
as_list_back (protocol.value v vs) = ap (protocol.value (value_back v)) (as_list_back vs)

as_pairs_list : (ps : KeyValues) → as_pairs (pairs_list ps) ≡ pairs_back ps
unfolding value_back
as_pairs_list no_pairs = refl
as_pairs_list (pair k v ps) = ap (pair k (value_back v)) (as_pairs_list ps)

-- ---- what is written has a spelling

-- The field of a pair's value has a spelling.
field_spelled : (fields : List Field) → length (row_bytes (value_fields fields)) < 2 ^ 64
    → HaveSpellings (value_fields fields)
field_spelled [] small = tt
field_spelled (f ∷ fields) small =
    let b = bytes_below 2 (row_bytes (f ∷ fields)) [] (2 ^ 64) small in
    (spelled_bytes 2 (row_bytes (f ∷ fields)) (omega arith) (omega arith) b.0, tt)

-- The fields of a pair have spellings.
pub pair_spelled : (k : List ℕ) (v : AnyValue) → length (row_bytes (pair_row k v)) < 2 ^ 64
    → HaveSpellings (pair_row k v)
pair_spelled k v small =
    let b = bytes_below 1 k (value_fields (value_row v)) (2 ^ 64) small in
    (spelled_bytes 1 k (omega arith) (omega arith) b.0, field_spelled (value_row v) b.1)

values_spelled : (vs : AnyValues) → length (row_bytes (values_row vs)) < 2 ^ 64
    → HaveSpellings (values_row vs)
unfolding value_row
values_spelled no_values small = tt
values_spelled (protocol.value v vs) small =
    let b = bytes_below 1 (row_bytes (value_row v)) (values_row vs) (2 ^ 64) small in
    (spelled_bytes 1 _ (omega arith) (omega arith) b.0, values_spelled vs b.1)

pairs_spelled : (ps : KeyValues) → length (row_bytes (pairs_row ps)) < 2 ^ 64
    → HaveSpellings (pairs_row ps)
unfolding value_row
pairs_spelled no_pairs small = tt
pairs_spelled (pair k v ps) small =
    let b = bytes_below 1 (row_bytes (pair_row k v)) (pairs_row ps) (2 ^ 64) small in
    (spelled_bytes 1 _ (omega arith) (omega arith) b.0, pairs_spelled ps b.1)

bit_small : (b : Bool) → HasPayload (varint (if b then 1 else 0))
bit_small true = omega arith
bit_small false = omega arith

double_small : (d : ℕ) → d < 2 ^ 64 → double_back d < 2 ^ 64
double_small d h = go (is_nan (from_bits binary64 d))
  where
    go : (b : Bool) → (if b then nan_bits else d) < 2 ^ 64
    go true = omega arith
    go false = h

value_spelled : (P : AnyValue → Type 0) (v : AnyValue) → IsSoundMember P v
    → length (row_bytes (value_row v)) < 2 ^ 64 → HaveSpellings (value_row v)
unfolding value_row
value_spelled P AnyValue.none h small = tt
value_spelled P (AnyValue.text t) h small =
    (spelled_bytes 1 t (omega arith) (omega arith) (bytes_below 1 t [] (2 ^ 64) small).0, tt)
value_spelled P (AnyValue.bool b) h small =
    (record { positive = omega arith; in_range = omega arith; payload = bit_small b }, tt)
value_spelled P (AnyValue.int i) h small =
    (record { positive = omega arith; in_range = omega arith; payload = (Fits-of_z h).fits }, tt)
value_spelled P (AnyValue.double d) h small =
    (record { positive = omega arith; in_range = omega arith; payload = double_small d h }, tt)
value_spelled P (AnyValue.array vs) h small =
    (spelled_bytes 5 _ (omega arith) (omega arith) (bytes_below 5 _ [] (2 ^ 64) small).0, tt)
value_spelled P (AnyValue.pairs ps) h small =
    (spelled_bytes 6 _ (omega arith) (omega arith) (bytes_below 6 _ [] (2 ^ 64) small).0, tt)
value_spelled P (AnyValue.bytes bs) h small =
    (spelled_bytes 7 bs (omega arith) (omega arith) (bytes_below 7 bs [] (2 ^ 64) small).0, tt)

-- ---- a value, where those in it are read by `deeper`

-- A value of which this holds is read.
abbrev pub ReadsBack : PayloadReading AnyValue → AnyValue → Type 0
ReadsBack deeper v =
    length (row_bytes (value_row v)) < 2 ^ 64
    → deeper (len (row_bytes (value_row v)) ∷ []) ≡ done (value_back v)

-- The value of a pair is read of its field, if it has one.
abbrev pub ReadsInPair : PayloadReading AnyValue → AnyValue → Type 0
ReadsInPair deeper v =
    length (row_bytes (value_fields (value_row v))) < 2 ^ 64
    → deeper (payloads 2 any (value_fields (value_row v))) ≡ done (value_back v)

-- A value that is read by itself is read in a pair.
pub reads_in_pair : (deeper : PayloadReading AnyValue) (P : AnyValue → Type 0)
    → deeper [] ≡ done AnyValue.none → ((v : AnyValue) → P v → ReadsBack deeper v)
    → (v : AnyValue) → IsPairValue P v → ReadsInPair deeper v
unfolding payloads value_row value_back
reads_in_pair deeper P nothing back AnyValue.none h small = nothing
reads_in_pair deeper P nothing back v h small =
    back v h (bytes_below 2 (row_bytes (value_row v)) [] (2 ^ 64) small).0

pair_table : (deeper : PayloadReading AnyValue) (k : List ℕ) (fields : List Field) (v : AnyValue)
    → is_utf8 k ≡ true → deeper (payloads 2 any (value_fields fields)) ≡ done v
    → read_table deeper key_value (bytes_field 1 k ∷ value_fields fields) ≡ done (k, (v, tt))
unfolding read payloads
pair_table deeper k [] v text back =
    ap₂ (λ p q. both p (both q (done tt))) (utf8-ok k text) back
pair_table deeper k (f ∷ fields) v text back =
    ap₂ (λ p q. both p (both q (done tt))) (utf8-ok k text) back

-- A pair is read, where its value is.
pub pair_read : (deeper : PayloadReading AnyValue) (k : List ℕ) (v : AnyValue) → is_utf8 k ≡ true
    → length (row_bytes (pair_row k v)) < 2 ^ 64 → ReadsInPair deeper v
    → read deeper (message key_value) (len (row_bytes (pair_row k v)) ∷ [])
    ≡ done (k, (value_back v, tt))
pair_read deeper k v text small back =
    let b = bytes_below 1 k (value_fields (value_row v)) (2 ^ 64) small in
    message_read deeper key_value (pair_row k v) (k, (value_back v, tt)) (pair_spelled k v small)
    (pair_table deeper k (value_row v) (value_back v) text (back b.1))

module _ (deeper : PayloadReading AnyValue) (P : AnyValue → Type 0)
    (nothing : deeper [] ≡ done AnyValue.none)
    (back : (v : AnyValue) → P v → ReadsBack deeper v) where
  values_each : (vs : AnyValues) → EachValue P vs → length (row_bytes (values_row vs)) < 2 ^ 64
      → each (λ p. read deeper any (p ∷ [])) (payloads 1 (repeated any) (values_row vs))
      ≡ done (list_back vs)
  unfolding read payloads value_row
  values_each no_values h small = refl
  values_each (protocol.value v vs) h small =
      let b = bytes_below 1 (row_bytes (value_row v)) (values_row vs) (2 ^ 64) small in
      ap₂ (λ p q. p >>= λ x. q >>= λ xs. done (x ∷ xs)) (back v h.0 b.0) (values_each vs h.1 b.1)

  -- The pairs of a list are read as what comes back.
  pub pairs_each : (ps : KeyValues) → EachPair (IsPairValue P) ps
      → length (row_bytes (pairs_row ps)) < 2 ^ 64
      → each (λ p. read deeper (message key_value) (p ∷ []))
      (payloads 1 (repeated (message key_value)) (pairs_row ps))
      ≡ done (pairs_list ps)
  unfolding read payloads value_row
  pairs_each no_pairs h small = refl
  pairs_each (pair k v ps) h small =
      let b = bytes_below 1 (row_bytes (pair_row k v)) (pairs_row ps) (2 ^ 64) small in
      ap₂ (λ p q. p >>= λ x. q >>= λ xs. done (x ∷ xs))
      (pair_read deeper k v h.0 b.0 (reads_in_pair deeper P nothing back v h.1))
      (pairs_each ps h.2 b.1)

  array_read : (vs : AnyValues) → EachValue P vs → length (row_bytes (values_row vs)) < 2 ^ 64
      → read deeper (message array_value) (len (row_bytes (values_row vs)) ∷ [])
      ≡ done (list_back vs, tt)
  unfolding read
  array_read vs h small =
      message_read deeper array_value (values_row vs) (list_back vs, tt) (values_spelled vs small)
      (ap (λ p. both p (done tt)) (values_each vs h small))

  list_read : (ps : KeyValues) → EachPair (IsPairValue P) ps
      → length (row_bytes (pairs_row ps)) < 2 ^ 64
      → read deeper (message key_value_list) (len (row_bytes (pairs_row ps)) ∷ [])
      ≡ done (pairs_list ps, tt)
  unfolding read
  list_read ps h small =
      message_read deeper key_value_list (pairs_row ps) (pairs_list ps, tt) (pairs_spelled ps small)
      (ap (λ p. both p (done tt)) (pairs_each ps h small))

  truth_read : (b : Bool)
      → read deeper bool (varint (if b then 1 else 0) ∷ [])
      >>= (λ x. done (AnyValue.bool x)) ≡ done (AnyValue.bool b)
  unfolding read
  truth_read true = refl
  truth_read false = refl

  member_read : (v : AnyValue) → IsSoundMember P v → length (row_bytes (value_row v)) < 2 ^ 64
      → value_of deeper (reverse (filter (λ f. is_some (member_of f)) (value_row v)))
      ≡ done (value_back v)
  unfolding value_row value_back read
  member_read AnyValue.none h small = refl
  member_read (AnyValue.text t) h small =
      ap (λ r. r >>= λ x. done (AnyValue.text x)) (utf8-ok t h)
  member_read (AnyValue.bool b) h small = truth_read b
  member_read (AnyValue.int i) h small = ap (λ z. done (AnyValue.int z)) (to_z-of_z h)
  member_read (AnyValue.double d) h small = refl
  member_read (AnyValue.array vs) h small =
      ap (λ r. r >>= λ x. done (AnyValue.array (as_values x.0)))
      (array_read vs h (bytes_below 5 (row_bytes (values_row vs)) [] (2 ^ 64) small).0)
      ∙ ap (λ z. done (AnyValue.array z)) (as_list_back vs)
  member_read (AnyValue.pairs ps) h small =
      ap (λ r. r >>= λ x. done (AnyValue.pairs (as_pairs x.0)))
      (list_read ps h (bytes_below 6 (row_bytes (pairs_row ps)) [] (2 ^ 64) small).0)
      ∙ ap (λ z. done (AnyValue.pairs z)) (as_pairs_list ps)
  member_read (AnyValue.bytes bs) h small = refl

-- No payload is no value.
pub nothing_read : (levels : ℕ) → value levels [] ≡ done AnyValue.none
unfolding value joined_rows
nothing_read zero = refl
nothing_read (suc levels) = refl

-- A value is read as it comes back.
pub value_read : (levels : ℕ) (v : AnyValue) → IsSoundValue levels v → ReadsBack (value levels) v
unfolding value IsSoundValue
value_read zero v h small = absurd h
value_read (suc levels) v h small =
    ap (λ r.
    r >>= λ fields. value_of (value levels) (reverse (filter (λ f. is_some (member_of f)) fields)))
    (joined-one (row_bytes (value_row v)) (value_row v)
    (row-row_bytes (value_row v) (value_spelled (IsSoundValue levels) v h small)))
    ∙ member_read (value levels) (IsSoundValue levels) (nothing_read levels) (value_read levels) v h
    small
