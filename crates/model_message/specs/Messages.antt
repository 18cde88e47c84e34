-- What bytes mean by a message's table. What doesn't count is not looked into. (Protocol Buffers,
-- Encoding; Language Guide: Default Field Values, Unknown Fields; what is not looked into: profile)
use Rattle.std.specs.Prelude.{ℕ, zero, suc, ◌%◌, ◌^◌, List, [], ◌∷◌, Bool, ◌==◌, ◌&&◌, not, filter}
use Rattle.std.specs.Prelude.{map, reverse, flat_map, find, take_while, Option, Some, None, is_some}
use Rattle.std.specs.Prelude.{unwrap_or, if◌then◌else◌}
use Rattle.std.specs.Int.{w32, w64, cast_signed}
use Rattle.std.specs.Str.{is_utf8}
use Rattle.model_message.specs.Reading.{Reading, ◌>>=◌, done, each, bad_utf8, too_deep}
use Rattle.model_message.specs.Wire.{Payload, varint, i64, len, i32, Field, row}
use Rattle.std.specs.List.{last_or}
use Rattle.model_message.specs.AnyValue.{AnyValue, none, as_values, as_pairs}
use Rattle.model_message.specs.Tables
use Rattle.model_message.specs.Tables.{Shape, text, bytes, bool, uint32, int64, enum, fixed64}
use Rattle.model_message.specs.Tables.{fixed32, any, message, repeated, Table, end, ◌⦂◌◂◌, ◌▸◌}
use Rattle.model_message.specs.Tables.{ValueOf, Message, array_value, key_value_list}
use Rattle.model_message.specs.Tables.{resource, scope, span, scope_spans, resource_spans, request}

-- ---- payloads

-- (Protocol Buffers, Encoding: Message Structure)
abbrev pub wire_type : Payload → ℕ
wire_type (varint n) = 0
wire_type (i64 n) = 1
wire_type (len bs) = 2
wire_type (i32 n) = 5

-- the wire type of a field; of a repeated one, that of each element (Protocol Buffers, Encoding:
-- Message Structure)
abbrev pub wire : Shape → ℕ
wire text = 2
wire bytes = 2
wire bool = 0
wire uint32 = 0
wire int64 = 0
wire enum = 0
wire fixed64 = 1
wire fixed32 = 5
wire any = 2
wire (message t) = 2
wire (repeated s) = wire s

-- Whether the field is this one of a table, in its wire type. Any other field is skipped. (Protocol
-- Buffers, Language Guide: Unknown Fields; another wire type is skipped like an unknown number)
abbrev pub is_field : ℕ → Shape → Field → Bool
is_field n s f = (f.number == n) && (wire_type f.payload == wire s)

-- the payloads of this field, in order
unfoldable pub payloads : ℕ → Shape → List Field → List Payload
payloads n s fields = map (λ f. f.payload) (filter (is_field n s) fields)

-- the number that the payload is
abbrev pub number_in : Payload → ℕ
number_in (varint n) = n
number_in (i64 n) = n
number_in (len bs) = 0
number_in (i32 n) = n

-- the bytes that the payload is
abbrev pub bytes_in : Payload → List ℕ
bytes_in (varint n) = []
bytes_in (i64 n) = []
bytes_in (len bs) = bs
bytes_in (i32 n) = []

-- the last payload counts, and without one the default, 0 (Protocol Buffers, Encoding: Last One
-- Wins)
abbrev pub last_number : List Payload → ℕ
last_number ps = number_in (unwrap_or (last_or None ps) (varint 0))

-- likewise; the default is empty
abbrev pub last_bytes : List Payload → List ℕ
last_bytes ps = bytes_in (unwrap_or (last_or None ps) (len []))

-- The rows of the payloads, one after another, each cut by itself: so the parts of a message are
-- merged. (Protocol Buffers, Encoding: Last One Wins)
unfoldable pub joined_rows : List Payload → Reading (List Field)
joined_rows ps = do
  rows ← each (λ p. row (bytes_in p)) ps
  done (flat_map (λ fields. fields) rows)

-- a text is UTF-8 (Protocol Buffers, Language Guide: Scalar Value Types)
abbrev pub utf8 : List ℕ → Reading (List ℕ)
utf8 bs = record { value = bs; faults = if is_utf8 bs then [] else bad_utf8 ∷ [] }

-- ---- a message, where the payloads of an AnyValue mean what `values` says

-- what the payloads of a field mean
abbrev pub PayloadReading : Type 0 → Type 0
PayloadReading A = List Payload → Reading A

unfoldable mutual
  unfolding payloads joined_rows

  -- A repeated field has all payloads, a message their joined rows, any other the last: uint32 and
  -- enum the low 32 bits, bool whether it isn't 0. (Protocol Buffers, Encoding: Last One Wins;
  -- Language Guide: Updating A Message Type)
  pub read : PayloadReading AnyValue → (s : Shape) → List Payload → Reading (ValueOf s)
  read values text ps = utf8 (last_bytes ps)
  read values bytes ps = done (last_bytes ps)
  read values bool ps = done (not (last_number ps == 0))
  read values uint32 ps = done (last_number ps % 2 ^ 32)
  read values int64 ps = done (cast_signed w64 (last_number ps))
  read values enum ps = done (cast_signed w32 (last_number ps % 2 ^ 32))
  read values fixed64 ps = done (last_number ps)
  read values fixed32 ps = done (last_number ps)
  read values any ps = values ps
  read values (message t) ps = joined_rows ps >>= λ fields. read_table values t fields
  read values (repeated s) ps = each (λ p. read values s (p ∷ [])) ps

  -- each field of the table has its own payloads: the order among the numbers is free (Protocol
  -- Buffers, Encoding: Field Order)
  pub read_table : PayloadReading AnyValue → (t : Table) → List Field → Reading (Message t)
  read_table values end fields = done tt
  read_table values (n ⦂ s ◂ t) fields =
      read values s (payloads n s fields) >>= λ first. read_table values t fields >>= λ others.
      done (first ▸ others)

-- ---- a value

-- one of the things that a value can be: the field that holds it, and the value that it makes
-- (opentelemetry-proto, common.proto: AnyValue)
pub record Member : Type 0 where
  pub number : ℕ
  pub shape : Shape
  pub make : ValueOf shape → AnyValue

-- the members of the `oneof value` (opentelemetry-proto, common.proto: AnyValue)
abbrev pub members : List Member
members =
    record { number = 1; shape = text; make = AnyValue.text } ∷
    record { number = 2; shape = bool; make = AnyValue.bool } ∷
    record { number = 3; shape = int64; make = AnyValue.int } ∷
    record { number = 4; shape = fixed64; make = AnyValue.double } ∷
    record { number = 5; shape = message array_value; make = λ a. AnyValue.array (as_values a.0) } ∷
    record {
      number = 6;
      shape = message key_value_list;
      make = λ l. AnyValue.pairs (as_pairs l.0);
    } ∷
    record { number = 7; shape = bytes; make = AnyValue.bytes } ∷ []

-- the member that the field holds, if any: it has its number and its wire type
abbrev pub member_of : Field → Option Member
member_of f = find (λ m. is_field m.number m.shape f) members

-- The payloads of the last unbroken run of a number, in a row that is given from its end. A member
-- of another number clears what came before it. (Protocol Buffers, Encoding: Oneofs)
abbrev pub last_run : ℕ → List Field → List Payload
last_run n back = map (λ f. f.payload) (reverse (take_while (λ f. f.number == n) back))

-- the value that the member makes of its payloads; none without a member
abbrev pub make_with : PayloadReading AnyValue → Option Member → List Payload → Reading AnyValue
make_with deeper None ps = done none
make_with deeper (Some m) ps = read deeper m.shape ps >>= λ x. done (m.make x)

-- The value of the members, which are given from the last: the last one's number decides. (Protocol
-- Buffers, Encoding: Oneofs)
abbrev pub value_of : PayloadReading AnyValue → List Field → Reading AnyValue
value_of deeper [] = done none
value_of deeper (f ∷ back) = make_with deeper (member_of f) (last_run f.number (f ∷ back))

-- What the payloads of an AnyValue mean where this number of levels is left. Its rows are joined,
-- and fields that are no member of it are skipped. Where no level is left a payload is too deep,
-- and is not looked into. (profile: the depth)
unfoldable pub value : ℕ → PayloadReading AnyValue
unfolding read joined_rows
value zero [] = done none
value zero (p ∷ ps) = record { value = none; faults = too_deep ∷ [] }
value (suc depth) ps =
    joined_rows ps >>= λ fields.
    value_of (value depth) (reverse (filter (λ f. is_some (member_of f)) fields))

-- an attribute's value has depth 1, and each member of an array or a list of pairs one more
-- (profile)
abbrev pub max_depth : ℕ
max_depth = 64

-- ---- a body

-- What the bytes mean as a message of the table. (Protocol Buffers, Encoding)
unfoldable pub meaning : (t : Table) → List ℕ → Reading (Message t)
unfolding read value row
meaning t body = row body >>= λ fields. read_table (value max_depth) t fields

-- A span with the scope and the resource that it is under, and the schema URL of each.
-- (opentelemetry-proto, trace.proto: ResourceSpans, ScopeSpans)
pub record Triple : Type 0 where
  pub resource : Message Tables.resource
  pub resource_schema : List ℕ
  pub scope : Message Tables.scope
  pub scope_schema : List ℕ
  pub span : Message Tables.span

-- the spans of a scope
abbrev pub scope_triples : Message Tables.resource → List ℕ → Message Tables.scope_spans
    → List Triple
scope_triples r url (sc ▸ spans ▸ scope_url ▸ rest) =
    let triple : Message Tables.span → Triple = λ x. record {
      resource = r;
      resource_schema = url;
      scope = sc;
      scope_schema = scope_url;
      span = x;
    } in
    map triple spans

-- the spans of a resource, scope by scope
abbrev pub resource_triples : Message Tables.resource_spans → List Triple
resource_triples (r ▸ scopes ▸ url ▸ rest) = flat_map (scope_triples r url) scopes

-- the spans of a request, in the order of reading (opentelemetry-proto, trace_service.proto:
-- ExportTraceServiceRequest)
abbrev pub triples : Message Tables.request → List Triple
triples (groups ▸ rest) = flat_map resource_triples groups

-- The meaning of a body: the spans of the request that it is, in the order of reading.
-- (opentelemetry-proto, trace_service.proto: ExportTraceServiceRequest)
unfoldable pub body_meaning : List ℕ → Reading (List Triple)
unfolding meaning
body_meaning body = meaning request body >>= λ message. done (triples message)
