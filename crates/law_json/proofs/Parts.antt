-- The messages of a trace: what is seen of them in JSON, the fields that this means, and what those
-- are read as.
use Rattle.std.proofs.Common.{◌≡◌, refl, ap, ap₂, ◌∙◌, ℕ, ℤ, suc, ◌<◌, ◌≤◌, ◌+◌, ◌%◌, ◌^◌}
use Rattle.std.proofs.Common.{List, [], ◌∷◌, ◌++◌, append-nil, length, map, arith, codes}
use Rattle.std.proofs.Common.{decimal, mod-eq_of_lt, pos, negsuc, ◌-◌, ◌*◌}
use Rattle.std.proofs.lemmas.Nat.{mod-mul-add}
use lib.Signed.{mag}
use Rattle.std.specs.Int.{w32, w64, cast_signed, cast_unsigned}
use Rattle.std.specs.Fmt.{signed_decimal}
use Rattle.std.specs.List.{flat_map}
use mir.Val.{SFits}
use mir.Facts.{to_z-of_z}
use Rattle.json.specs.Token.{key, string}
use Rattle.model_message.specs.AnyValue.{AnyValue}
use Rattle.model_message.specs.Reading.{done}
use Rattle.model_message.specs.Wire.{Field, Payload, varint, i64, len}
use Rattle.model_message.specs.Tables
use Rattle.model_message.specs.Tables.{Message, Shape, message, repeated, key_value, uint32, enum}
use Rattle.model_message.specs.Tables.{text, fixed64}
use Rattle.model_message.specs.Messages.{PayloadReading, max_depth, payloads, read, value}
use Rattle.model_message.specs.Canon.{bytes_field, row_bytes}
use Rattle.model_message.proofs.RowLaws.{HaveSpellings}
use Rattle.model_message.proofs.ReadBack.{utf8-ok}
use Rattle.otlp_json.specs.Bodies.{object}
use Rattle.otlp_json.specs.Names.{member_named, resource_member, scope_member, event_member}
use Rattle.otlp_json.specs.Names.{status_member}
use Rattle.otlp_json.specs.LeafNames as leaves
use Rattle.otlp_json.specs.MessageNames as messages
use Rattle.otlp_json.specs.Seen.{Seen, Other, braces, brackets, number_seen}
use Rattle.view_json.specs.Values.{value_member}
use Rattle.law_json.specs.Back.{message_back}
use Rattle.law_json.specs.Sound.{IsSound, IsSoundMessage, IsSoundValue}
use Rattle.law_json.proofs.Fronts.{TakesItems, TakesObject, no_members, object_takes}
use Rattle.law_json.proofs.Leaves.{enum_means, long_means, text_means}
use Rattle.law_json.proofs.Leaves.{uint32_means}
use Rattle.law_json.proofs.Lists.{payloads_both, rows, rows_none, rows_read, rows_spelled}
use Rattle.law_json.proofs.Lists.{rows_take}
use Rattle.law_json.proofs.Lists.{then_each, then_leaf}
use Rattle.law_json.proofs.Rows.{both, both_spelled, bytes_below, message_read, parts_below}
use Rattle.law_json.proofs.Rows.{rest_below, spelled_bytes, spelled_payload}
use Rattle.law_json.proofs.Values.{pair_row, pair_takes, sound_in_pair, value_members, value_taken}
use Rattle.law_json.proofs.Values.{value_takes}
use Rattle.law_json.proofs.ValuesRead.{nothing_read, pair_read, reads_in_pair, value_read}

-- ---- pairs

abbrev pub Pair : Type 0
Pair = Message key_value

abbrev pub pair_members : Pair → List Seen
pair_members p =
    Other (key (codes "key")) ∷ Other (string p.0) ∷ value_member (value_members p.1.0)

abbrev pub pair_fields : Pair → List Field
pair_fields p = pair_row p.0 p.1.0

-- what is seen of attributes, without the brackets, and the fields of this number that they are
abbrev pub pairs_seen : List Pair → List Seen
pairs_seen ps = flat_map (λ p. braces (pair_members p)) ps

abbrev pub pairs_rows : ℕ → List Pair → List Field
pairs_rows n ps = rows n pair_fields ps

abbrev pub SoundPairs : List Pair → Type 0
SoundPairs ps = IsSound (repeated (message key_value)) ps

-- what comes back
abbrev pub pairs_as : List Pair → List Pair
pairs_as ps = map (message_back key_value) ps

-- A list of pairs means a field for each pair.
pub pairs_take : (depth n : ℕ) (ps : List Pair) → 191 ≤ depth → SoundPairs ps
    → TakesItems (object (suc (suc depth))) n messages.key_value (pairs_seen ps) (pairs_rows n ps)
pairs_take depth n ps room h =
    rows_take pair_fields (object (suc (suc depth))) n messages.key_value
    (λ p. IsSoundMessage key_value p) pair_members
    (λ p k. pair_takes (suc depth) p.0 p.1.0
    (value_taken 64 (suc depth) p.1.0 (value_takes 64)
    (sound_in_pair (IsSoundValue 64) p.1.0 k.1.0) (omega (arith, room)))) ps h

abbrev pub values : PayloadReading AnyValue
values = value max_depth

pair_back : (p : Pair) → IsSoundMessage key_value p → length (row_bytes (pair_fields p)) < 2 ^ 64
    → read values (message key_value) (len (row_bytes (pair_fields p)) ∷ [])
    ≡ done (message_back key_value p)
unfolding message_back
pair_back p h small =
    pair_read values p.0 p.1.0 h.0 small
    (reads_in_pair values (IsSoundValue 64) (nothing_read 64) (value_read 64) p.1.0
    (sound_in_pair (IsSoundValue 64) p.1.0 h.1.0))

-- The fields of a list of pairs are read as what comes back.
pub pairs_back : (n : ℕ) (ps : List Pair) → SoundPairs ps
    → length (row_bytes (pairs_rows n ps)) < 2 ^ 64
    → read values (repeated (message key_value))
    (payloads n (repeated (message key_value)) (pairs_rows n ps)) ≡ done (pairs_as ps)
unfolding read
pairs_back n ps h small =
    rows_read pair_fields values n key_value (λ p. IsSoundMessage key_value p)
    (message_back key_value) pair_back ps h small

-- ---- numbers

-- The bits of a number of 32 bits with a sign have room in 64.
pub bits_small : (z : ℤ) → mag z < 2 ^ 31 → cast_unsigned w64 z < 2 ^ 64
bits_small (pos n) h = omega (arith, h)
bits_small (negsuc n) h = omega arith

enum_bits : (z : ℤ) → mag z < 2 ^ 31 → cast_unsigned w64 z % 2 ^ 32 ≡ cast_unsigned w32 z
enum_bits (pos n) h = mod-eq_of_lt (omega (arith, h))
enum_bits (negsuc n) h =
    let parts : 2 ^ 64 - suc n ≡ (2 ^ 32 - 1) * 2 ^ 32 + (2 ^ 32 - suc n) = omega (arith, h) in
    ap (λ k. k % 2 ^ 32) parts ∙ mod-mul-add (2 ^ 32 - 1) (2 ^ 32) (2 ^ 32 - suc n) (omega arith)

-- The bits of an enumeration are read as its number.
pub enum_back : (z : ℤ) → SFits w32 z
    → read values enum (varint (cast_unsigned w64 z) ∷ []) ≡ done z
unfolding read
enum_back z h = ap (λ k. done (cast_signed w32 k)) (enum_bits z h.sfits) ∙ ap done (to_z-of_z h)

-- A number of 32 bits is read as itself.
pub uint32_back : (n : ℕ) → n < 2 ^ 32 → read values uint32 (varint n ∷ []) ≡ done n
unfolding read
uint32_back n h = ap done (mod-eq_of_lt h)

-- ---- a list of pairs between other fields

-- the payloads of a number where those of the pairs are these
amid : (n : ℕ) (s : Shape) (front : List Field) (m : ℕ) (ps : List Pair) (back : List Field)
    (own : List Payload)
    → payloads n s (pairs_rows m ps) ≡ own
    → payloads n s (front ++ (pairs_rows m ps ++ back))
    ≡ payloads n s front ++ (own ++ payloads n s back)
amid n s front m ps back own h =
    payloads_both n s front (pairs_rows m ps ++ back)
    ∙ ap (λ l. payloads n s front ++ l)
    (payloads_both n s (pairs_rows m ps) back ∙ ap (λ l. l ++ payloads n s back) h)

-- The payloads of another number than that of the pairs.
pub beside : (n : ℕ) (s : Shape) (front : List Field) (m : ℕ) (ps : List Pair) (back : List Field)
    → (m ≡ n → ⊥)
    → payloads n s (front ++ (pairs_rows m ps ++ back)) ≡ payloads n s front ++ payloads n s back
beside n s front m ps back other =
    amid n s front m ps back [] (rows_none pair_fields m n s other ps)

-- The payloads of the pairs are read as what comes back.
pub within : (n : ℕ) (front : List Field) (ps : List Pair) (back : List Field)
    → payloads n (repeated (message key_value)) front ≡ []
    → payloads n (repeated (message key_value)) back ≡ [] → SoundPairs ps
    → length (row_bytes (pairs_rows n ps)) < 2 ^ 64
    → read values (repeated (message key_value))
    (payloads n (repeated (message key_value)) (front ++ (pairs_rows n ps ++ back)))
    ≡ done (pairs_as ps)
within n front ps back before after h small =
    let s = repeated (message key_value) in
    ap (read values s)
    (amid n s front n ps back (payloads n s (pairs_rows n ps)) refl
    ∙ ap₂ (λ a b. a ++ (payloads n s (pairs_rows n ps) ++ b)) before after
    ∙ append-nil (payloads n s (pairs_rows n ps)))
    ∙ pairs_back n ps h small

-- ---- the status of a span

abbrev pub status_seen : Message Tables.status → List Seen
status_seen s =
    Other (key (codes "message")) ∷ Other (string s.0) ∷ Other (key (codes "code"))
    ∷ number_seen (signed_decimal s.1.0) ∷ []

abbrev pub status_row : Message Tables.status → List Field
status_row s =
    bytes_field 2 s.0 ∷ record { number = 3; payload = varint (cast_unsigned w64 s.1.0) } ∷ []

-- A status means its fields.
pub status_takes : (depth : ℕ) (s : Message Tables.status) → IsSoundMessage Tables.status s
    → TakesObject (object (suc depth)) messages.status (status_seen s) (status_row s)
unfolding member_named status_member
status_takes depth s h =
    let o = object depth in
    object_takes depth messages.status (status_seen s) (status_row s)
    (then_leaf o messages.status (codes "message") _ _ 2 leaves.text (Other (string s.0)) (len s.0)
    refl (text_means s.0)
    (then_leaf o messages.status (codes "code") [] [] 3 leaves.enum
    (number_seen (signed_decimal s.1.0)) (varint (cast_unsigned w64 s.1.0)) refl
    (enum_means s.1.0 h.1.0.sfits) (no_members o messages.status)))

-- The fields of a status are read as the status.
pub status_back : (s : Message Tables.status) → IsSoundMessage Tables.status s
    → length (row_bytes (status_row s)) < 2 ^ 64
    → read values (message Tables.status) (len (row_bytes (status_row s)) ∷ []) ≡ done s
unfolding read payloads
status_back s h small =
    message_read values Tables.status (status_row s) s (
      spelled_bytes 2 s.0 (omega arith) (omega arith) (bytes_below 2 s.0 _ (2 ^ 64) small).0,
      (
        spelled_payload 3 (varint (cast_unsigned w64 s.1.0)) (omega arith) (omega arith)
            (bits_small s.1.0 h.1.0.sfits),
        tt,
      ),
    )
    (ap₂ (λ p q. both p (both q (done tt))) (utf8-ok s.0 h.0) (enum_back s.1.0 h.1.0))

-- ---- a resource

abbrev pub resource_seen : Message Tables.resource → List Seen
resource_seen r =
    Other (key (codes "attributes")) ∷ (brackets (pairs_seen r.0)
    ++ Other (key (codes "droppedAttributesCount")) ∷ number_seen (decimal r.1.0) ∷ [])

-- how many attributes were dropped
abbrev pub dropped : ℕ → ℕ → List Field
dropped n x = record { number = n; payload = varint x } ∷ []

abbrev pub resource_row : Message Tables.resource → List Field
resource_row r = pairs_rows 1 r.0 ++ dropped 2 r.1.0

-- A resource means its fields.
pub resource_takes : (depth : ℕ) (r : Message Tables.resource) → 191 ≤ depth
    → IsSoundMessage Tables.resource r
    → TakesObject (object (suc (suc (suc depth)))) messages.resource (resource_seen r)
    (resource_row r)
unfolding member_named resource_member
resource_takes depth r room h =
    let o = object (suc (suc depth)) in
    object_takes (suc (suc depth)) messages.resource (resource_seen r) (resource_row r)
    (then_each o messages.resource (codes "attributes") _ _ 1 messages.key_value (pairs_seen r.0)
    (pairs_rows 1 r.0) refl (pairs_take depth 1 r.0 room h.0)
    (then_leaf o messages.resource (codes "droppedAttributesCount") [] [] 2 leaves.uint32
    (number_seen (decimal r.1.0)) (varint r.1.0) refl (uint32_means r.1.0 h.1.0)
    (no_members o messages.resource)))

-- A count has a spelling.
pub dropped_spelled : (n x : ℕ) → 0 < n → n < 2 ^ 29 → x < 2 ^ 32 → HaveSpellings (dropped n x)
dropped_spelled n x positive in_range small =
    (spelled_payload n (varint x) positive in_range (omega (arith, small)), tt)

-- The fields of a resource are read as what comes back.
pub resource_back : (r : Message Tables.resource) → IsSoundMessage Tables.resource r
    → length (row_bytes (resource_row r)) < 2 ^ 64
    → read values (message Tables.resource) (len (row_bytes (resource_row r)) ∷ [])
    ≡ done (message_back Tables.resource r)
unfolding read payloads message_back
resource_back r h small =
    let parts = parts_below (pairs_rows 1 r.0) (dropped 2 r.1.0) (2 ^ 64) small in
    message_read values Tables.resource (resource_row r) _
    (both_spelled (pairs_rows 1 r.0) (dropped 2 r.1.0)
    (rows_spelled pair_fields 1 (omega arith) (omega arith) r.0 parts.0)
    (dropped_spelled 2 r.1.0 (omega arith) (omega arith) h.1.0))
    (ap₂ (λ p q. both p (both q (done tt)))
    (within 1 [] r.0 (dropped 2 r.1.0) refl refl h.0 parts.0)
    (ap (read values uint32) (beside 2 uint32 [] 1 r.0 (dropped 2 r.1.0) (λ e. omega (arith, e)))
    ∙ uint32_back r.1.0 h.1.0))

-- ---- a scope

abbrev pub scope_seen : Message Tables.scope → List Seen
scope_seen s =
    Other (key (codes "name")) ∷ Other (string s.0) ∷ Other (key (codes "version"))
    ∷ Other (string s.1.0) ∷ Other (key (codes "attributes")) ∷ (brackets (pairs_seen s.1.1.0)
    ++ Other (key (codes "droppedAttributesCount")) ∷ number_seen (decimal s.1.1.1.0) ∷ [])

abbrev scope_front : Message Tables.scope → List Field
scope_front s = bytes_field 1 s.0 ∷ bytes_field 2 s.1.0 ∷ []

abbrev pub scope_row : Message Tables.scope → List Field
scope_row s = scope_front s ++ (pairs_rows 3 s.1.1.0 ++ dropped 4 s.1.1.1.0)

-- A scope means its fields.
pub scope_takes : (depth : ℕ) (s : Message Tables.scope) → 191 ≤ depth
    → IsSoundMessage Tables.scope s
    → TakesObject (object (suc (suc (suc depth)))) messages.scope (scope_seen s) (scope_row s)
unfolding member_named scope_member
scope_takes depth s room h =
    let o = object (suc (suc depth)) in
    object_takes (suc (suc depth)) messages.scope (scope_seen s) (scope_row s)
    (then_leaf o messages.scope (codes "name") _ _ 1 leaves.text (Other (string s.0)) (len s.0) refl
    (text_means s.0)
    (then_leaf o messages.scope (codes "version") _ _ 2 leaves.text (Other (string s.1.0))
    (len s.1.0) refl (text_means s.1.0)
    (then_each o messages.scope (codes "attributes") _ _ 3 messages.key_value (pairs_seen s.1.1.0)
    (pairs_rows 3 s.1.1.0) refl (pairs_take depth 3 s.1.1.0 room h.1.1.0)
    (then_leaf o messages.scope (codes "droppedAttributesCount") [] [] 4 leaves.uint32
    (number_seen (decimal s.1.1.1.0)) (varint s.1.1.1.0) refl
    (uint32_means s.1.1.1.0 h.1.1.1.0) (no_members o messages.scope)))))

-- The fields of a scope are read as what comes back.
pub scope_back : (s : Message Tables.scope) → IsSoundMessage Tables.scope s
    → length (row_bytes (scope_row s)) < 2 ^ 64
    → read values (message Tables.scope) (len (row_bytes (scope_row s)) ∷ [])
    ≡ done (message_back Tables.scope s)
unfolding read payloads message_back
scope_back s h small =
    let ps = s.1.1.0 in
    let x = s.1.1.1.0 in
    let a = bytes_below 1 s.0 _ (2 ^ 64) small in
    let b = bytes_below 2 s.1.0 _ (2 ^ 64) a.1 in
    let parts = parts_below (pairs_rows 3 ps) (dropped 4 x) (2 ^ 64) b.1 in
    message_read values Tables.scope (scope_row s) _ (
      spelled_bytes 1 s.0 (omega arith) (omega arith) a.0,
      (
        spelled_bytes 2 s.1.0 (omega arith) (omega arith) b.0,
        both_spelled (pairs_rows 3 ps) (dropped 4 x)
            (rows_spelled pair_fields 3 (omega arith) (omega arith) ps parts.0)
            (dropped_spelled 4 x (omega arith) (omega arith) h.1.1.1.0),
      ),
    )
    (ap₂ (λ p q. both p q)
    (ap (read values text)
    (beside 1 text (scope_front s) 3 ps (dropped 4 x) (λ e. omega (arith, e)))
    ∙ utf8-ok s.0 h.0)
    (ap₂ (λ p q. both p q)
    (ap (read values text)
    (beside 2 text (scope_front s) 3 ps (dropped 4 x) (λ e. omega (arith, e)))
    ∙ utf8-ok s.1.0 h.1.0)
    (ap₂ (λ p q. both p (both q (done tt)))
    (within 3 (scope_front s) ps (dropped 4 x) refl refl h.1.1.0 parts.0)
    (ap (read values uint32)
    (beside 4 uint32 (scope_front s) 3 ps (dropped 4 x) (λ e. omega (arith, e)))
    ∙ uint32_back x h.1.1.1.0))))

-- ---- an event

abbrev pub event_seen : Message Tables.event → List Seen
event_seen e =
    Other (key (codes "timeUnixNano")) ∷ Other (string (decimal e.0)) ∷ Other (key (codes "name"))
    ∷ Other (string e.1.0) ∷ Other (key (codes "attributes")) ∷ (brackets (pairs_seen e.1.1.0)
    ++ Other (key (codes "droppedAttributesCount")) ∷ number_seen (decimal e.1.1.1.0) ∷ [])

abbrev event_front : Message Tables.event → List Field
event_front e = record { number = 1; payload = i64 e.0 } ∷ bytes_field 2 e.1.0 ∷ []

abbrev pub event_row : Message Tables.event → List Field
event_row e = event_front e ++ (pairs_rows 3 e.1.1.0 ++ dropped 4 e.1.1.1.0)

-- An event means its fields.
pub event_takes : (depth : ℕ) (e : Message Tables.event) → 191 ≤ depth
    → IsSoundMessage Tables.event e
    → TakesObject (object (suc (suc (suc depth)))) messages.event (event_seen e) (event_row e)
unfolding member_named event_member
event_takes depth e room h =
    let o = object (suc (suc depth)) in
    object_takes (suc (suc depth)) messages.event (event_seen e) (event_row e)
    (then_leaf o messages.event (codes "timeUnixNano") _ _ 1 leaves.fixed64
    (Other (string (decimal e.0))) (i64 e.0) refl (long_means e.0 h.0)
    (then_leaf o messages.event (codes "name") _ _ 2 leaves.text (Other (string e.1.0)) (len e.1.0)
    refl (text_means e.1.0)
    (then_each o messages.event (codes "attributes") _ _ 3 messages.key_value (pairs_seen e.1.1.0)
    (pairs_rows 3 e.1.1.0) refl (pairs_take depth 3 e.1.1.0 room h.1.1.0)
    (then_leaf o messages.event (codes "droppedAttributesCount") [] [] 4 leaves.uint32
    (number_seen (decimal e.1.1.1.0)) (varint e.1.1.1.0) refl
    (uint32_means e.1.1.1.0 h.1.1.1.0) (no_members o messages.event)))))

-- The fields of an event are read as what comes back.
pub event_back : (e : Message Tables.event) → IsSoundMessage Tables.event e
    → length (row_bytes (event_row e)) < 2 ^ 64
    → read values (message Tables.event) (len (row_bytes (event_row e)) ∷ [])
    ≡ done (message_back Tables.event e)
unfolding read payloads message_back
event_back e h small =
    let ps = e.1.1.0 in
    let x = e.1.1.1.0 in
    let a = rest_below (record { number = 1; payload = i64 e.0 }) _ (2 ^ 64) small in
    let b = bytes_below 2 e.1.0 _ (2 ^ 64) a in
    let parts = parts_below (pairs_rows 3 ps) (dropped 4 x) (2 ^ 64) b.1 in
    message_read values Tables.event (event_row e) _ (
      spelled_payload 1 (i64 e.0) (omega arith) (omega arith) h.0,
      (
        spelled_bytes 2 e.1.0 (omega arith) (omega arith) b.0,
        both_spelled (pairs_rows 3 ps) (dropped 4 x)
            (rows_spelled pair_fields 3 (omega arith) (omega arith) ps parts.0)
            (dropped_spelled 4 x (omega arith) (omega arith) h.1.1.1.0),
      ),
    )
    (ap₂ (λ p q. both p q)
    (ap (read values fixed64)
    (beside 1 fixed64 (event_front e) 3 ps (dropped 4 x) (λ k. omega (arith, k))))
    (ap₂ (λ p q. both p q)
    (ap (read values text)
    (beside 2 text (event_front e) 3 ps (dropped 4 x) (λ k. omega (arith, k)))
    ∙ utf8-ok e.1.0 h.1.0)
    (ap₂ (λ p q. both p (both q (done tt)))
    (within 3 (event_front e) ps (dropped 4 x) refl refl h.1.1.0 parts.0)
    (ap (read values uint32)
    (beside 4 uint32 (event_front e) 3 ps (dropped 4 x) (λ k. omega (arith, k)))
    ∙ uint32_back x h.1.1.1.0))))
