-- What a reader of fields gives, in the model's terms (Protocol Buffers, Encoding: Message
-- Structure).
use Rattle.std.specs.Prelude.{◌≡◌, ℕ, ◌+◌, List, [], ◌∷◌, ◌++◌, length, Option, Some, None, Result}
use Rattle.std.specs.Prelude.{Ok, Err}
use Rattle.std.specs.List.{AllByRecursion}
use Rattle.std.specs.Iterator.{Count, at_most}
use Rattle.std.specs.Borrow.{Bor}
use Rattle.model_message.specs.Reading.{Reading, Fault, done, truncated, long_varint, bad_number}
use Rattle.model_message.specs.Reading.{group, bad_wire_type}
use Rattle.model_message.specs.Wire
use Rattle.model_message.specs.Wire.{put}
use Rattle.model_message.specs.Messages.{bytes_in}
use Rattle.otlp_wire.specs.declared.reader.WireFault.{WireFault}
use Rattle.otlp_wire.specs.declared.reader.WireFault.TheVariants.{Truncated, LongVarint, BadNumber}
use Rattle.otlp_wire.specs.declared.reader.WireFault.TheVariants.{Group, BadWireType}
use Rattle.otlp_wire.specs.declared.reader.Payload.{Payload}
use Rattle.otlp_wire.specs.declared.reader.Payload.TheVariants.{Varint, I64, Len, I32}
use Rattle.otlp_wire.specs.declared.reader.Field.{Field}

-- the fault of the model
abbrev pub fault_of : WireFault → Fault
fault_of Truncated = truncated
fault_of LongVarint = long_varint
fault_of BadNumber = bad_number
fault_of Group = group
fault_of BadWireType = bad_wire_type

-- the payload of the model
abbrev pub payload_of : Payload → Wire.Payload
payload_of (Varint n) = Wire.varint n
payload_of (I64 n) = Wire.i64 n
payload_of (Len bytes) = Wire.len bytes.now
payload_of (I32 n) = Wire.i32 n

-- the field of the model
abbrev pub field_of : Field → Wire.Field
field_of f = record { number = f.number; payload = payload_of f.payload }

-- what is at the front of some bytes, with the bytes after it, or the fault that is there
abbrev pub front_of : {A B : Type 0} → (A → B) → Result (A × Bor (List ℕ)) WireFault
    → Result (B × List ℕ) Fault
front_of view (Ok (x, rest)) = Ok (view x, rest.now)
front_of view (Err fault) = Err (fault_of fault)

-- Of the row that was left: its first field, and the fields after it are left; or the fault in
-- the place of its first field, and nothing is left; or none where nothing was left. (Protocol
-- Buffers, Encoding: Message Structure)
abbrev pub GivesField : Reading (List Wire.Field) → Option (Result Field WireFault)
    → Reading (List Wire.Field) → Type 0
GivesField old (Some (Ok f)) new = old ≡ put (field_of f) new
GivesField old (Some (Err fault)) new =
    (old ≡ record { value = []; faults = fault_of fault ∷ [] }) × (new ≡ done [])
GivesField old None new = (old ≡ done []) × (new ≡ done [])

-- as many as fields and faults
abbrev pub outcome_count : Reading (List Wire.Field) → Count
outcome_count left = at_most (length left.value + length left.faults)

-- some bytes of these, one after the other
pub record IsPart (part whole : List ℕ) : Type 0 where
  pub before : List ℕ
  pub appended : List ℕ
  pub exact : whole ≡ before ++ part ++ appended

-- what each field holds is a part of these bytes
abbrev pub ArePartsOf : List ℕ → List Wire.Field → Type 0
ArePartsOf whole fields = AllByRecursion (λ f. IsPart (bytes_in f.payload) whole) fields
