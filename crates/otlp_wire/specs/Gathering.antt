-- What was gathered of the fields of a message, by its table. (Protocol Buffers, Encoding: Last One
-- Wins, Repeated Elements)
use Rattle.std.specs.Prelude.{◌≡◌, ℕ, ◌%◌, ◌^◌, List, [], ◌∷◌, ◌++◌, ◌==◌, not}
use Rattle.std.specs.Int.{w32, w64, cast_signed}
use Rattle.model_message.specs.Reading.{Reading, Reads, Fault, done, ◌>>=◌}
use Rattle.model_message.specs.Wire.{Field, Payload, row}
use Rattle.model_message.specs.AnyValue.{AnyValue}
use Rattle.model_message.specs.Tables.{Shape, text, bytes, bool, uint32, int64, enum, fixed64}
use Rattle.model_message.specs.Tables.{fixed32, any, message, repeated, Table, end, ◌⦂◌◂◌, ◌▸◌}
use Rattle.model_message.specs.Tables.{ValueOf, Message}
use Rattle.model_message.specs.Messages.{PayloadReading, payloads, last_number, last_bytes}
use Rattle.model_message.specs.Messages.{joined_rows, read, read_table, utf8, value, max_depth}

abbrev mutual
  -- What is kept of the payloads of a field: the last one of a scalar, a text or bytes, as it came;
  -- of a message what is kept of its joined fields; of a repeated field the values so far.
  pub Kept : Shape → Type 0
  Kept text = List ℕ
  Kept bytes = List ℕ
  Kept bool = ℕ
  Kept uint32 = ℕ
  Kept int64 = ℕ
  Kept enum = ℕ
  Kept fixed64 = ℕ
  Kept fixed32 = ℕ
  Kept any = List Payload
  Kept (message t) = Gathered t
  Kept (repeated s) = List (ValueOf s)

  -- what is kept of each field of the table
  pub Gathered : Table → Type 0
  Gathered end = Unit {0}
  Gathered (n ⦂ s ◂ t) = Kept s × Gathered t

abbrev mutual
  -- This is kept of these payloads, in which there is no fault so far.
  pub IsKept : PayloadReading AnyValue → (s : Shape) → Kept s → List Payload → Type 0
  IsKept values text x ps = x ≡ last_bytes ps
  IsKept values bytes x ps = x ≡ last_bytes ps
  IsKept values bool x ps = x ≡ last_number ps
  IsKept values uint32 x ps = x ≡ last_number ps
  IsKept values int64 x ps = x ≡ last_number ps
  IsKept values enum x ps = x ≡ last_number ps
  IsKept values fixed64 x ps = x ≡ last_number ps
  IsKept values fixed32 x ps = x ≡ last_number ps
  IsKept values any x ps = x ≡ ps
  IsKept values (message t) x ps =
      ((joined_rows ps).faults ≡ []) × IsGathered values t x (joined_rows ps).value
  IsKept values (repeated s) xs ps = Reads (read values (repeated s) ps) xs

  -- This was gathered of these fields.
  pub IsGathered : PayloadReading AnyValue → (t : Table) → Gathered t → List Field → Type 0
  IsGathered values end x fields = Unit {0}
  IsGathered values (n ⦂ s ◂ t) x fields =
      IsKept values s x.0 (payloads n s fields) × IsGathered values t x.1 fields

-- what was gathered of some fields, and then of those of these bytes
abbrev pub GathersRow : PayloadReading AnyValue → (t : Table) → Gathered t → Gathered t → List ℕ
    → Type 0
GathersRow values t old new content =
    (fields : List Field) → IsGathered values t old fields →
    IsGathered values t new (fields ++ (row content).value)

-- the faults of the row of these bytes, and of its fields among others of a message
abbrev pub part_faults : PayloadReading AnyValue → Table → List Field → List ℕ → List Field
    → List Fault
part_faults values t before content after =
    (row content).faults ++ (read_table values t (before ++ (row content).value ++ after)).faults

-- this is kept of a field of a table after one field more
abbrev pub KeepsField : (s : Shape) → ℕ → Kept s → Kept s → Field → Type 0
KeepsField s n old new f =
    (fields : List Field) → IsKept (value max_depth) s old (payloads n s fields) →
    IsKept (value max_depth) s new (payloads n s (fields ++ f ∷ []))

-- the faults of a field of a table, where this field is one of the message
abbrev pub field_faults : Shape → ℕ → List Field → Field → List Field → List Fault
field_faults s n before f after =
    (read (value max_depth) s (payloads n s (before ++ f ∷ after))).faults

abbrev mutual
  -- What is kept where there is no field yet.
  pub no_payload : (s : Shape) → Kept s
  no_payload text = []
  no_payload bytes = []
  no_payload bool = 0
  no_payload uint32 = 0
  no_payload int64 = 0
  no_payload enum = 0
  no_payload fixed64 = 0
  no_payload fixed32 = 0
  no_payload any = []
  no_payload (message t) = nothing t
  no_payload (repeated s) = []

  -- What is gathered where there is no field yet.
  pub nothing : (t : Table) → Gathered t
  nothing end = tt
  nothing (n ⦂ s ◂ t) = no_payload s ▸ nothing t

abbrev mutual
  -- What is kept, read to its end.
  pub finished : PayloadReading AnyValue → (s : Shape) → Kept s → Reading (ValueOf s)
  finished values text x = utf8 x
  finished values bytes x = done x
  finished values bool x = done (not (x == 0))
  finished values uint32 x = done (x % 2 ^ 32)
  finished values int64 x = done (cast_signed w64 x)
  finished values enum x = done (cast_signed w32 (x % 2 ^ 32))
  finished values fixed64 x = done x
  finished values fixed32 x = done x
  finished values any x = values x
  finished values (message t) x = finished_table values t x
  finished values (repeated s) xs = done xs

  -- What was gathered, read to its end.
  pub finished_table : PayloadReading AnyValue → (t : Table) → Gathered t → Reading (Message t)
  finished_table values end x = done tt
  finished_table values (n ⦂ s ◂ t) x =
      finished values s x.0 >>= λ first. finished_table values t x.1 >>= λ others.
      done (first ▸ others)
