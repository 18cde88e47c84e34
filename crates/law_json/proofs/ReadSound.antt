-- What was read of bytes without a fault is sound.
use Rattle.std.proofs.Common.{◌≡◌, refl, sym, subst, ℕ, zero, suc, ◌<◌, ◌^◌, Bool, true}
use Rattle.std.proofs.Common.{false, cond, List, [], ◌∷◌, ◌++◌, map, filter, reverse, arith, take}
use Rattle.std.proofs.Common.{◌==◌, if◌then◌else◌}
use Rattle.std.specs.Prelude.{Option, Some, None, is_some, unwrap_or, find, flat_map, take_while}
use Rattle.std.specs.Int.{w32, w64, from_le_bytes}
use Rattle.std.specs.List.{AllByRecursion, last_or, prefix_len}
use Rattle.std.specs.Str.{is_utf8}
use Rattle.std.proofs.lemmas.Bool.{and_parts, eqb-true}
use Rattle.std.proofs.lemmas.Nat.{mod_below}
use mathlib.Core.List.{reverse-cons}
use mir.Facts.{sfits_to_z}
use Rattle.base64.specs.GeneralPurpose.{IsBytes}
use Rattle.model_message.specs.AnyValue.{AnyValue, as_values, as_pairs}
use Rattle.model_message.specs.Reading.{Reading, ◌>>=◌, done, each, Fault, bad_utf8}
use Rattle.model_message.specs.Wire.{Field, Payload, varint, i64, len, i32, row}
use Rattle.model_message.specs.Tables
use Rattle.model_message.specs.Tables.{Shape, text, bytes, bool, uint32, int64, enum, fixed64}
use Rattle.model_message.specs.Tables.{fixed32, any, message, repeated, Table, end, ◌⦂◌◂◌}
use Rattle.model_message.specs.Tables.{Message, key_value, array_value, key_value_list}
use Rattle.model_message.specs.Messages.{PayloadReading, Member, members, member_of, make_with}
use Rattle.model_message.specs.Messages.{body_meaning, bytes_in, is_field, joined_rows}
use Rattle.model_message.specs.Messages.{last_bytes, last_number, last_run, max_depth, meaning}
use Rattle.model_message.specs.Messages.{number_in, payloads, read, read_table, resource_triples}
use Rattle.model_message.specs.Messages.{scope_triples, utf8, value, value_of, wire}
use Rattle.model_message.specs.Messages.{wire_type}
use Rattle.model_message.specs.Spelling.{IsPayload, IsRow, number_of_septets}
use Rattle.model_message.specs.Whole.{EachValue, EachPair, IsText}
use Rattle.model_message.proofs.RowLaws.{row-spelled}
use Rattle.law_json.specs.Sound.{AreSoundBy, IsPairValue, IsSoundBy, IsSoundMember, IsSoundMessage}
use Rattle.law_json.specs.Sound.{IsSoundTriple, IsSoundValue}
use Rattle.law_json.proofs.Values.{sound_in_pair}

-- ---- lists

all_to : {X : Type 0} (P Q : X → Type 0) → ((x : X) → P x → Q x) → (xs : List X)
    → AllByRecursion P xs → AllByRecursion Q xs
all_to P Q f [] h = tt
all_to P Q f (x ∷ xs) h = (f x h.0, all_to P Q f xs h.1)

all_both : {X : Type 0} (P : X → Type 0) (xs ys : List X) → AllByRecursion P xs
    → AllByRecursion P ys → AllByRecursion P (xs ++ ys)
all_both P [] ys h k = k
all_both P (x ∷ xs) ys h k = (h.0, all_both P xs ys h.1 k)

all_kept : {X : Type 0} (P : X → Type 0) (test : X → Bool) (xs : List X) → AllByRecursion P xs
    → AllByRecursion P (filter test xs)
all_kept P test [] h = tt
all_kept P test (x ∷ xs) h = go (test x) (all_kept P test xs h.1)
  where
    go : (b : Bool) → AllByRecursion P (filter test xs)
        → AllByRecursion P (cond b (x ∷ filter test xs) (filter test xs))
    go true k = (h.0, k)
    go false k = k

both_nil : {X : Type 0} (a b : List X) → a ++ b ≡ [] → (a ≡ []) × (b ≡ [])
both_nil [] b e = (refl, e)
both_nil (x ∷ a) b e = cc

no_more : {X : Type 0} (r : Reading X) → r.faults ++ [] ≡ [] → r.faults ≡ []
no_more r e = (both_nil r.faults [] e).0

-- ---- bytes and payloads

bytes_first : (a b : List ℕ) → IsBytes (a ++ b) → IsBytes a
bytes_first [] b h i = omega arith
bytes_first (x ∷ a) b h zero = h 0
bytes_first (x ∷ a) b h (suc i) = bytes_first a b (λ k. h (suc k)) i

bytes_second : (a b : List ℕ) → IsBytes (a ++ b) → IsBytes b
bytes_second [] b h = h
bytes_second (x ∷ a) b h = bytes_second a b (λ k. h (suc k))

abbrev SoundPayload : Payload → Type 0
SoundPayload (varint n) = n < 2 ^ 64
SoundPayload (i64 n) = n < 2 ^ 64
SoundPayload (len bs) = IsBytes bs
SoundPayload (i32 n) = n < 2 ^ 32

abbrev SoundField : Field → Type 0
SoundField f = SoundPayload f.payload

eight_below : (bs : List ℕ) → IsBytes bs → from_le_bytes w64 bs < 2 ^ 64
eight_below bs h = omega (arith, h 0, h 1, h 2, h 3, h 4, h 5, h 6, h 7)

four_below : (bs : List ℕ) → IsBytes bs → from_le_bytes w32 bs < 2 ^ 32
four_below bs h = omega (arith, h 0, h 1, h 2, h 3)

payload_sound : (bs : List ℕ) (p : Payload) → IsBytes bs → IsPayload bs p → SoundPayload p
payload_sound bs (varint n) h s =
    subst (λ k. k < 2 ^ 64) (sym s.value)
    (mod_below (number_of_septets bs) (2 ^ 64) (omega arith))
payload_sound bs (i64 n) h s = subst (λ k. k < 2 ^ 64) (sym s.1) (eight_below bs h)
payload_sound bs (len content) h s = bytes_second s.size content (subst IsBytes s.whole h)
payload_sound bs (i32 n) h s = subst (λ k. k < 2 ^ 32) (sym s.1) (four_below bs h)

row_sound : (bs : List ℕ) (fields : List Field) → IsBytes bs → IsRow bs fields
    → AllByRecursion SoundField fields
row_sound bs [] h s = tt
row_sound bs (f ∷ fields) h s =
    let all = subst IsBytes s.4 h in
    let first = bytes_first s.0 s.1 all in (
      payload_sound s.2.rest f.payload
          (bytes_second s.2.tag s.2.rest (subst IsBytes s.2.whole first)) s.2.payload,
      row_sound s.1 fields (bytes_second s.0 s.1 all) s.3,
    )

row_read : (bs : List ℕ) → IsBytes bs → (row bs).faults ≡ []
    → AllByRecursion SoundField (row bs).value
row_read bs h e = row_sound bs (row bs).value h ((row-spelled bs (row bs).value).1 (e, refl))

-- the payload has the room of the field: the others have it by themselves
abbrev Narrow : Shape → Payload → Type 0
Narrow text p = Unit {0}
Narrow bytes p = Unit {0}
Narrow bool p = Unit {0}
Narrow uint32 p = Unit {0}
Narrow int64 p = Unit {0}
Narrow enum p = Unit {0}
Narrow fixed64 p = Unit {0}
Narrow fixed32 p = number_in p < 2 ^ 32
Narrow any p = Unit {0}
Narrow (message t) p = Unit {0}
Narrow (repeated s) p = Narrow s p

abbrev Fit : Shape → Payload → Type 0
Fit s p = SoundPayload p × Narrow s p

narrow32 : (p : Payload) → SoundPayload p → wire_type p ≡ 5 → number_in p < 2 ^ 32
narrow32 (varint n) h e = absurd (omega (arith, e))
narrow32 (i64 n) h e = absurd (omega (arith, e))
narrow32 (len bs) h e = absurd (omega (arith, e))
narrow32 (i32 n) h e = h

narrow : (s : Shape) (p : Payload) → SoundPayload p → wire_type p ≡ wire s → Narrow s p
narrow text p h e = tt
narrow bytes p h e = tt
narrow bool p h e = tt
narrow uint32 p h e = tt
narrow int64 p h e = tt
narrow enum p h e = tt
narrow fixed64 p h e = tt
narrow fixed32 p h e = narrow32 p h e
narrow any p h e = tt
narrow (message t) p h e = tt
narrow (repeated s) p h e = narrow s p h e

payloads_fit : (n : ℕ) (s : Shape) (fields : List Field) → AllByRecursion SoundField fields
    → AllByRecursion (Fit s) (payloads n s fields)
unfolding payloads
payloads_fit n s [] h = tt
payloads_fit n s (f ∷ fields) h = go (is_field n s f) refl (payloads_fit n s fields h.1)
  where
    go : (b : Bool) → is_field n s f ≡ b
        → AllByRecursion (Fit s) (map (λ g. g.payload) (filter (is_field n s) fields))
        → AllByRecursion (Fit s)
        (map (λ g. g.payload)
        (cond b (f ∷ filter (is_field n s) fields) (filter (is_field n s) fields)))
    go true e k = (
      (
        h.0,
        narrow s f.payload h.0
            (eqb-true (wire_type f.payload) (wire s) (and_parts (f.number == n) _ e).1),
      ),
      k,
    )
    go false e k = k

-- ---- the last payload

last_from : (P : Payload → Type 0) (d : Payload) (o : Option Payload) (ps : List Payload)
    → P (unwrap_or o d) → AllByRecursion P ps → P (unwrap_or (last_or o ps) d)
last_from P d o [] h k = h
last_from P d o (p ∷ ps) h k = last_from P d (Some p) ps k.0 k.1

number_below : (p : Payload) → SoundPayload p → number_in p < 2 ^ 64
number_below (varint n) h = h
number_below (i64 n) h = h
number_below (len bs) h = omega arith
number_below (i32 n) h = omega (arith, h)

bytes_sound : (p : Payload) → SoundPayload p → IsBytes (bytes_in p)
bytes_sound (varint n) h i = omega arith
bytes_sound (i64 n) h i = omega arith
bytes_sound (len bs) h i = h i
bytes_sound (i32 n) h i = omega arith

last_below : (s : Shape) (ps : List Payload) → AllByRecursion (Fit s) ps → last_number ps < 2 ^ 64
last_below s ps h =
    last_from (λ p. number_in p < 2 ^ 64) (varint 0) None ps (omega arith)
    (all_to (Fit s) (λ p. number_in p < 2 ^ 64) (λ p k. number_below p k.0) ps h)

last_sound : (s : Shape) (ps : List Payload) → AllByRecursion (Fit s) ps → IsBytes (last_bytes ps)
last_sound s ps h =
    last_from (λ p. IsBytes (bytes_in p)) (len []) None ps (λ i. omega arith)
    (all_to (Fit s) (λ p. IsBytes (bytes_in p)) (λ p k. bytes_sound p k.0) ps h)

text_sound : (bs : List ℕ) → (utf8 bs).faults ≡ [] → is_utf8 bs ≡ true
text_sound bs e = go (is_utf8 bs) e
  where
    go : (b : Bool) → ◌≡◌ {A = List Fault} (if b then [] else bad_utf8 ∷ []) [] → b ≡ true
    go true e = refl
    go false e = cc

-- ---- rows that are joined

rows_sound : (s : Shape) (ps : List Payload) → AllByRecursion (Fit s) ps
    → (each (λ p. row (bytes_in p)) ps).faults ≡ []
    → AllByRecursion SoundField
    (flat_map (λ fields. fields) (each (λ p. row (bytes_in p)) ps).value)
rows_sound s [] h e = tt
rows_sound s (p ∷ ps) h e =
    let one = both_nil (row (bytes_in p)).faults _ e in
    let more = both_nil (each (λ q. row (bytes_in q)) ps).faults [] one.1 in
    all_both SoundField (row (bytes_in p)).value _
    (row_read (bytes_in p) (bytes_sound p h.0.0) one.0) (rows_sound s ps h.1 more.0)

joined_sound : (s : Shape) (ps : List Payload) → AllByRecursion (Fit s) ps
    → (joined_rows ps).faults ≡ [] → AllByRecursion SoundField (joined_rows ps).value
unfolding joined_rows
joined_sound s ps h e =
    rows_sound s ps h (both_nil (each (λ p. row (bytes_in p)) ps).faults [] e).0

each_sound : {X : Type 0} (f : Payload → Reading X) (P : Payload → Type 0) (Q : X → Type 0)
    → ((p : Payload) → P p → (f p).faults ≡ [] → Q (f p).value)
    → (ps : List Payload) → AllByRecursion P ps → (each f ps).faults ≡ []
    → AllByRecursion Q (each f ps).value
each_sound f P Q go [] h e = tt
each_sound f P Q go (p ∷ ps) h e =
    let one = both_nil (f p).faults _ e in
    let more = both_nil (each f ps).faults [] one.1 in
    (go p h.0 one.0, each_sound f P Q go ps h.1 more.0)

-- ---- the fields of a run

first_sound : (k : ℕ) (fields : List Field) → AllByRecursion SoundField fields
    → AllByRecursion SoundField (take k fields)
first_sound zero fields h = tt
first_sound (suc k) [] h = tt
first_sound (suc k) (f ∷ fields) h = (h.0, first_sound k fields h.1)

turned_sound : (fields : List Field) → AllByRecursion SoundField fields
    → AllByRecursion SoundField (reverse fields)
turned_sound [] h = tt
turned_sound (f ∷ fields) h =
    subst (AllByRecursion SoundField) (sym (reverse-cons f fields))
    (all_both SoundField (reverse fields) (f ∷ []) (turned_sound fields h.1) (h.0, tt))

payloads_sound : (fields : List Field) → AllByRecursion SoundField fields
    → AllByRecursion (Fit text) (map (λ f. f.payload) fields)
payloads_sound [] h = tt
payloads_sound (f ∷ fields) h = ((h.0, tt), payloads_sound fields h.1)

run_sound : (n : ℕ) (fields : List Field) → AllByRecursion SoundField fields
    → AllByRecursion (Fit text) (last_run n fields)
run_sound n fields h =
    payloads_sound (reverse (take_while (λ f. f.number == n) fields))
    (turned_sound (take_while (λ f. f.number == n) fields)
    (first_sound (prefix_len (λ f. f.number == n) fields) fields h))

-- ---- messages, where values are read by `deeper`

module _ (deeper : PayloadReading AnyValue) (P : AnyValue → Type 0)
    (back : (ps : List Payload) → AllByRecursion (Fit any) ps → (deeper ps).faults ≡ []
    → P (deeper ps).value) where
  mutual
    unfolding read

    shape_sound : (s : Shape) (ps : List Payload) → AllByRecursion (Fit s) ps
        → (read deeper s ps).faults ≡ [] → IsSoundBy P s (read deeper s ps).value
    shape_sound text ps h e = text_sound (last_bytes ps) e
    shape_sound bytes ps h e = last_sound bytes ps h
    shape_sound bool ps h e = tt
    shape_sound uint32 ps h e = mod_below (last_number ps) (2 ^ 32) (omega arith)
    shape_sound int64 ps h e = sfits_to_z (record { fits = last_below int64 ps h })
    shape_sound enum ps h e =
        sfits_to_z (record { fits = mod_below (last_number ps) (2 ^ 32) (omega arith) })
    shape_sound fixed64 ps h e = last_below fixed64 ps h
    shape_sound fixed32 ps h e =
        last_from (λ p. number_in p < 2 ^ 32) (varint 0) None ps (omega arith)
        (all_to (Fit fixed32) (λ p. number_in p < 2 ^ 32) (λ p k. k.1) ps h)
    shape_sound any ps h e = back ps h e
    shape_sound (message t) ps h e =
        let b = both_nil (joined_rows ps).faults _ e in
        table_sound t (joined_rows ps).value (joined_sound (message t) ps h b.0) b.1
    shape_sound (repeated s) ps h e =
        each_sound (λ p. read deeper s (p ∷ [])) (Fit s) (λ x. IsSoundBy P s x)
        (λ p k f. shape_sound s (p ∷ []) (k, tt) f) ps h e

    table_sound : (t : Table) (fields : List Field) → AllByRecursion SoundField fields
        → (read_table deeper t fields).faults ≡ []
        → AreSoundBy P t (read_table deeper t fields).value
    table_sound end fields h e = tt
    table_sound (n ⦂ s ◂ t) fields h e =
        let one = both_nil (read deeper s (payloads n s fields)).faults _ e in
        let more = both_nil (read_table deeper t fields).faults [] one.1 in (
          shape_sound s (payloads n s fields) (payloads_fit n s fields h) one.0,
          table_sound t fields h more.0,
        )

-- ---- the members of a value: an item has one payload, and the value of a pair may have none

module _ (deeper : PayloadReading AnyValue) (P : AnyValue → Type 0)
    (item : (p : Payload) → Fit any p → (deeper (p ∷ [])).faults ≡ [] → P (deeper (p ∷ [])).value)
    (back : (ps : List Payload) → AllByRecursion (Fit any) ps → (deeper ps).faults ≡ []
    → IsPairValue P (deeper ps).value) where
  -- What is read of payloads is sound, by the type of the field.
  of_shape : (s : Shape) (ps : List Payload) → AllByRecursion (Fit s) ps
      → (read deeper s ps).faults ≡ [] → IsSoundBy (IsPairValue P) s (read deeper s ps).value
  of_shape s ps h e = shape_sound deeper (IsPairValue P) back s ps h e

  array_sound : (ps : List Payload) → AllByRecursion (Fit text) ps
      → (read deeper (message array_value) ps).faults ≡ []
      → AllByRecursion P (read deeper (message array_value) ps).value.0
  unfolding read
  array_sound ps h e =
      let b = both_nil (joined_rows ps).faults _ e in
      let fields = (joined_rows ps).value in
      let one =
      both_nil (each (λ p. deeper (p ∷ [])) (payloads 1 (repeated any) fields)).faults _ b.1
      in
      each_sound (λ p. deeper (p ∷ [])) (Fit any) P item (payloads 1 (repeated any) fields)
      (payloads_fit 1 (repeated any) fields (joined_sound (message array_value) ps h b.0)) one.0

  values_each : (vs : List AnyValue) → AllByRecursion P vs → EachValue P (as_values vs)
  values_each [] h = tt
  values_each (v ∷ vs) h = (h.0, values_each vs h.1)

  pairs_each : (ps : List (Message key_value))
      → AllByRecursion (λ p. AreSoundBy (IsPairValue P) key_value p) ps
      → EachPair (IsPairValue P) (as_pairs ps)
  pairs_each [] h = tt
  pairs_each (p ∷ ps) h = (h.0.0, h.0.1.0, pairs_each ps h.1)

  abbrev MakesSound : Member → Type 0
  MakesSound m =
      (ps : List Payload) → AllByRecursion (Fit text) ps
      → (read deeper m.shape ps >>= λ x. done (m.make x)).faults ≡ []
      → IsSoundMember P (read deeper m.shape ps >>= λ x. done (m.make x)).value

  each_makes : AllByRecursion MakesSound members
  each_makes = (
    (λ ps h e. of_shape text ps h (no_more (read deeper text ps) e)),
    (
      (λ ps h e. tt),
      (
        (λ ps h e. of_shape int64 ps h (no_more (read deeper int64 ps) e)),
        (
          (λ ps h e. of_shape fixed64 ps h (no_more (read deeper fixed64 ps) e)),
          (
            (λ ps h e.
                values_each _
                (array_sound ps h (no_more (read deeper (message array_value) ps) e))),
            (
              (λ ps h e.
                  pairs_each _
                  (of_shape (message key_value_list) ps h
                  (no_more (read deeper (message key_value_list) ps) e)).0),
              ((λ ps h e. of_shape bytes ps h (no_more (read deeper bytes ps) e)), tt),
            ),
          ),
        ),
      ),
    ),
  )

  found_makes : (test : Member → Bool) (ms : List Member) → AllByRecursion MakesSound ms
      → (ps : List Payload) → AllByRecursion (Fit text) ps
      → (make_with deeper (find test ms) ps).faults ≡ []
      → IsSoundMember P (make_with deeper (find test ms) ps).value
  found_makes test [] h ps k e = tt
  found_makes test (m ∷ ms) h ps k e = go (test m) (found_makes test ms h.1 ps k) e
    where
      go : (b : Bool)
          → ((make_with deeper (find test ms) ps).faults ≡ []
          → IsSoundMember P (make_with deeper (find test ms) ps).value)
          → (make_with deeper (cond b (Some m) (find test ms)) ps).faults ≡ []
          → IsSoundMember P (make_with deeper (cond b (Some m) (find test ms)) ps).value
      go true more f = h.0 ps k f
      go false more f = more f

  value_of_sound : (fields : List Field) → AllByRecursion SoundField fields
      → (value_of deeper fields).faults ≡ [] → IsSoundMember P (value_of deeper fields).value
  value_of_sound [] h e = tt
  value_of_sound (f ∷ fields) h e =
      found_makes (λ m. is_field m.number m.shape f) members each_makes
      (last_run f.number (f ∷ fields)) (run_sound f.number (f ∷ fields) h) e

-- what is read of payloads as the value of a pair, and of one as an item of an array
abbrev PairsSound : ℕ → Type 0
PairsSound depth =
    (ps : List Payload) → AllByRecursion (Fit any) ps → (value depth ps).faults ≡ []
    → IsPairValue (IsSoundValue depth) (value depth ps).value

abbrev ItemsSound : ℕ → Type 0
ItemsSound depth =
    (p : Payload) → Fit any p → (value depth (p ∷ [])).faults ≡ []
    → IsSoundValue depth (value depth (p ∷ [])).value

-- one level, where what is in it is sound
level_sound : (depth : ℕ) → ItemsSound depth → PairsSound depth → (ps : List Payload)
    → AllByRecursion (Fit any) ps → (value (suc depth) ps).faults ≡ []
    → IsSoundValue (suc depth) (value (suc depth) ps).value
unfolding value IsSoundValue
level_sound depth items pairs ps h e =
    let b = both_nil (joined_rows ps).faults _ e in
    let fields = (joined_rows ps).value in
    value_of_sound (value depth) (IsSoundValue depth) items pairs
    (reverse (filter (λ f. is_some (member_of f)) fields))
    (turned_sound (filter (λ f. is_some (member_of f)) fields)
    (all_kept SoundField (λ f. is_some (member_of f)) fields (joined_sound any ps h b.0))) b.1

mutual
  unfolding value

  -- Past the last level no item is read without a fault.
  item_sound : (depth : ℕ) → ItemsSound depth
  item_sound zero p h e = cc
  item_sound (suc depth) p h e =
      level_sound depth (item_sound depth) (pair_sound depth) (p ∷ []) (h, tt) e

  -- Past the last level the value of a pair is read without a fault if it isn't there.
  pair_sound : (depth : ℕ) → PairsSound depth
  pair_sound zero [] h e = tt
  pair_sound zero (p ∷ ps) h e = cc
  pair_sound (suc depth) ps h e =
      sound_in_pair (IsSoundValue (suc depth)) (value (suc depth) ps).value
      (level_sound depth (item_sound depth) (pair_sound depth) ps h e)

-- A value of 64 levels that is read without a fault is sound.
value_sound : (ps : List Payload) → AllByRecursion (Fit any) ps
    → (value max_depth ps).faults ≡ [] → IsSoundValue max_depth (value max_depth ps).value
value_sound ps h e = level_sound 63 (item_sound 63) (pair_sound 63) ps h e

-- ---- the spans of a request

spans_sound : (r : Message Tables.resource) (url : List ℕ) (sc : Message Tables.scope)
    (scope_url : List ℕ)
    → IsSoundMessage Tables.resource r → IsText url → IsSoundMessage Tables.scope sc
    → IsText scope_url → (spans : List (Message Tables.span))
    → AllByRecursion (λ s. IsSoundMessage Tables.span s) spans
    → AllByRecursion IsSoundTriple (scope_triples r url (sc, (spans, (scope_url, tt))))
spans_sound r url sc scope_url hr hu hs hv [] h = tt
spans_sound r url sc scope_url hr hu hs hv (s ∷ spans) h = (
  record { resource = hr; resource_schema = hu; scope = hs; scope_schema = hv; span = h.0 },
  spans_sound r url sc scope_url hr hu hs hv spans h.1,
)

scopes_sound : (r : Message Tables.resource) (url : List ℕ) → IsSoundMessage Tables.resource r
    → IsText url → (scopes : List (Message Tables.scope_spans))
    → AllByRecursion (λ g. IsSoundMessage Tables.scope_spans g) scopes
    → AllByRecursion IsSoundTriple (flat_map (scope_triples r url) scopes)
scopes_sound r url hr hu [] h = tt
scopes_sound r url hr hu (g ∷ scopes) h =
    all_both IsSoundTriple (scope_triples r url g) (flat_map (scope_triples r url) scopes)
    (spans_sound r url g.0 g.1.1.0 hr hu h.0.0 h.0.1.1.0 g.1.0 h.0.1.0)
    (scopes_sound r url hr hu scopes h.1)

groups_sound : (groups : List (Message Tables.resource_spans))
    → AllByRecursion (λ g. IsSoundMessage Tables.resource_spans g) groups
    → AllByRecursion IsSoundTriple (flat_map resource_triples groups)
groups_sound [] h = tt
groups_sound (g ∷ groups) h =
    all_both IsSoundTriple (resource_triples g) (flat_map resource_triples groups)
    (scopes_sound g.0 g.1.1.0 h.0.0 h.0.1.1.0 g.1.0 h.0.1.0) (groups_sound groups h.1)

-- The spans of bytes that are read without a fault are sound.
pub read_is_sound : (body : List ℕ) → IsBytes body → (body_meaning body).faults ≡ []
    → AllByRecursion IsSoundTriple (body_meaning body).value
unfolding body_meaning meaning
read_is_sound body h e =
    let whole = no_more (meaning Tables.request body) e in
    let b = both_nil (row body).faults _ whole in
    groups_sound (read_table (value max_depth) Tables.request (row body).value).value.0
    (table_sound (value max_depth) (IsSoundValue max_depth) value_sound Tables.request
    (row body).value
    (row_read body h b.0) b.1).0
