-- The bytes that a message is written as: known fields in rising number, shortest varints, and no
-- scalar, text or bytes that is its default, but for the member of a value, nor a message of these
-- alone that has no field to write. One of the ways that Protocol Buffers allow. (profile)
use Rattle.std.specs.Prelude.{ℕ, zero, suc, ◌+◌, ◌*◌, ◌/◌, ◌%◌, List, [], ◌∷◌, ◌++◌, length}
use Rattle.std.specs.Prelude.{flat_map, nat_lt, ◌==◌, Bool, true, false, ◌&&◌, if◌then◌else◌}
use Rattle.std.specs.Int.{w32, w64, to_le_bytes, cast_unsigned}
use Rattle.model_message.specs.Wire.{Payload, varint, i64, len, i32, Field}
use Rattle.model_message.specs.AnyValue.{AnyValue, AnyValues, no_values, value, KeyValues, no_pairs}
use Rattle.model_message.specs.AnyValue.{pair}
use Rattle.model_message.specs.Tables.{Shape, text, bytes, bool, uint32, int64, enum, fixed64}
use Rattle.model_message.specs.Tables.{fixed32, any, message, repeated, Table, end, ◌⦂◌◂◌, ValueOf}
use Rattle.model_message.specs.Tables.{Message}
use Rattle.model_message.specs.Messages.{wire_type}

-- ---- fields as bytes

-- groups of seven bits, the least first, in at most one more than this number of bytes (Protocol
-- Buffers, Encoding: Base 128 Varints)
unfoldable pub septets_of : ℕ → ℕ → List ℕ
septets_of zero n = n ∷ []
septets_of (suc room) n =
    if nat_lt n 128 then n ∷ [] else (n % 128 + 128) ∷ septets_of room (n / 128)

-- the shortest varint of a number of 64 bits (Protocol Buffers, Encoding: Base 128 Varints; the
-- shortest: profile)
unfoldable pub shortest : ℕ → List ℕ
unfolding septets_of
shortest n = septets_of 9 n

-- (Protocol Buffers, Encoding: Message Structure, Length-Delimited Records)
unfoldable pub payload_bytes : Payload → List ℕ
unfolding shortest
payload_bytes (varint n) = shortest n
payload_bytes (i64 n) = to_le_bytes w64 n
payload_bytes (len bs) = shortest (length bs) ++ bs
payload_bytes (i32 n) = to_le_bytes w32 n

-- the tag, then the payload (Protocol Buffers, Encoding: Message Structure)
unfoldable pub field_bytes : Field → List ℕ
unfolding shortest payload_bytes
field_bytes f = shortest (f.number * 8 + wire_type f.payload) ++ payload_bytes f.payload

-- one field after the other
unfoldable pub row_bytes : List Field → List ℕ
unfolding field_bytes
row_bytes fields = flat_map field_bytes fields

-- ---- messages as fields

-- a number other than 0, as a varint (Protocol Buffers, Language Guide: Default Field Values)
abbrev pub number_field : ℕ → ℕ → List Field
number_field n x = if x == 0 then [] else record { number = n; payload = varint x } ∷ []

-- bytes after their length, also where there are none
abbrev pub bytes_field : ℕ → List ℕ → Field
bytes_field n bs = record { number = n; payload = len bs }

-- bytes, if there are any (Protocol Buffers, Language Guide: Default Field Values)
abbrev pub unless_empty : ℕ → List ℕ → List Field
unless_empty n [] = []
unless_empty n (b ∷ bs) = bytes_field n (b ∷ bs) ∷ []

unfoldable mutual
  unfolding row_bytes

  -- A value as the one field of its kind, which is there also where it is the default. (Protocol
  -- Buffers, Encoding: Oneofs; opentelemetry-proto, common.proto: AnyValue)
  pub value_fields : AnyValue → List Field
  value_fields AnyValue.none = []
  value_fields (AnyValue.text t) = bytes_field 1 t ∷ []
  value_fields (AnyValue.bool b) = record { number = 2; payload = varint (if b then 1 else 0) } ∷ []
  value_fields (AnyValue.int i) = record { number = 3; payload = varint (cast_unsigned w64 i) } ∷ []
  value_fields (AnyValue.double d) = record { number = 4; payload = i64 d } ∷ []
  value_fields (AnyValue.array vs) = bytes_field 5 (row_bytes (values_fields vs)) ∷ []
  value_fields (AnyValue.pairs ps) = bytes_field 6 (row_bytes (pairs_fields ps)) ∷ []
  value_fields (AnyValue.bytes bs) = bytes_field 7 bs ∷ []

  -- each value, also one that is none (common.proto: ArrayValue)
  pub values_fields : AnyValues → List Field
  values_fields no_values = []
  values_fields (value v vs) = bytes_field 1 (row_bytes (value_fields v)) ∷ values_fields vs

  -- each pair, with its key unless that is empty, and with its value always (common.proto:
  -- KeyValueList)
  pub pairs_fields : KeyValues → List Field
  pairs_fields no_pairs = []
  pairs_fields (pair k v ps) =
      bytes_field 1
      (row_bytes (unless_empty 1 k ++ bytes_field 2 (row_bytes (value_fields v)) ∷ [])) ∷
      pairs_fields ps

-- a message of these fields, also where there are none
abbrev pub message_field : ℕ → List Field → Field
message_field n fields = bytes_field n (row_bytes fields)

-- a message of these fields, if there are any
abbrev pub unless_no_fields : ℕ → List Field → List Field
unless_no_fields n [] = []
unless_no_fields n (f ∷ fields) = bytes_field n (field_bytes f ++ row_bytes fields) ∷ []

-- a scalar, a text or bytes
abbrev pub is_scalar : Shape → Bool
is_scalar any = false
is_scalar (message t) = false
is_scalar (repeated s) = false
is_scalar text = true
is_scalar bytes = true
is_scalar bool = true
is_scalar uint32 = true
is_scalar int64 = true
is_scalar enum = true
is_scalar fixed64 = true
is_scalar fixed32 = true

-- The message holds scalars, texts and bytes alone, as Status and ExportTracePartialSuccess do, but
-- neither Resource nor InstrumentationScope. (opentelemetry-proto)
abbrev pub is_flat : Table → Bool
is_flat end = true
is_flat (n ⦂ s ◂ t) = is_scalar s && is_flat t

unfoldable mutual
  unfolding value_fields row_bytes

  -- A field of a table, under its number: a scalar, text or bytes unless it is the default, a flat
  -- message unless it has no field to write, another message and a value always. (Protocol Buffers,
  -- Encoding: Signed Integers; Language Guide: Default Field Values; empty messages: profile)
  pub shape_fields : ℕ → (s : Shape) → ValueOf s → List Field
  shape_fields n text t = unless_empty n t
  shape_fields n bytes bs = unless_empty n bs
  shape_fields n bool b = number_field n (if b then 1 else 0)
  shape_fields n uint32 x = number_field n x
  shape_fields n int64 i = number_field n (cast_unsigned w64 i)
  shape_fields n enum i = number_field n (cast_unsigned w64 i)
  shape_fields n fixed64 x = if x == 0 then [] else record { number = n; payload = i64 x } ∷ []
  shape_fields n fixed32 x = if x == 0 then [] else record { number = n; payload = i32 x } ∷ []
  shape_fields n any v = bytes_field n (row_bytes (value_fields v)) ∷ []
  shape_fields n (message t) r =
      if is_flat t then unless_no_fields n (table_fields t r)
      else message_field n (table_fields t r) ∷ []
  shape_fields n (repeated s) xs = flat_map (λ x. element_fields n s x) xs

  -- A member of a repeated field, which is always written. (Protocol Buffers, Encoding: Repeated
  -- Elements)
  pub element_fields : ℕ → (s : Shape) → ValueOf s → List Field
  element_fields n text t = bytes_field n t ∷ []
  element_fields n bytes bs = bytes_field n bs ∷ []
  element_fields n bool b = record { number = n; payload = varint (if b then 1 else 0) } ∷ []
  element_fields n uint32 x = record { number = n; payload = varint x } ∷ []
  element_fields n int64 i = record { number = n; payload = varint (cast_unsigned w64 i) } ∷ []
  element_fields n enum i = record { number = n; payload = varint (cast_unsigned w64 i) } ∷ []
  element_fields n fixed64 x = record { number = n; payload = i64 x } ∷ []
  element_fields n fixed32 x = record { number = n; payload = i32 x } ∷ []
  element_fields n any v = bytes_field n (row_bytes (value_fields v)) ∷ []
  element_fields n (message t) r = message_field n (table_fields t r) ∷ []
  element_fields n (repeated s) xs = flat_map (λ x. element_fields n s x) xs

  -- the fields in the table's order (Protocol Buffers, Encoding: Field Order)
  pub table_fields : (t : Table) → Message t → List Field
  table_fields end r = []
  table_fields (n ⦂ s ◂ t) r = shape_fields n s r.0 ++ table_fields t r.1

-- The bytes that a message of the table is written as. How many they are is the exact length of a
-- body. (profile)
unfoldable pub canon : (t : Table) → Message t → List ℕ
unfolding table_fields row_bytes
canon t r = row_bytes (table_fields t r)

-- the bytes of a field of a table, under its number
abbrev pub shape_bytes : ℕ → (s : Shape) → ValueOf s → List ℕ
shape_bytes n s x = row_bytes (shape_fields n s x)
