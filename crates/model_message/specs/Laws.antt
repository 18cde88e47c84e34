-- What is proved of the model itself. The functions of `src/lib.rt` carry these statements.
use Rattle.std.specs.Prelude.{◌≡◌, ℕ, ◌<◌, ◌^◌, ◌↔◌, List, ◌++◌, length, true}
use Rattle.model_message.specs.Reading.{Reads, done}
use Rattle.model_message.specs.Wire.{Field, row}
use Rattle.model_message.specs.Spelling.{IsVarint, IsField, IsRow}
use Rattle.model_message.specs.Tables.{Table, Message, is_table}
use Rattle.model_message.specs.Messages.{meaning}
use Rattle.model_message.specs.Canon.{canon}
use Rattle.model_message.specs.Whole.{IsMessage}

-- No varint begins another, and each is one number. (Protocol Buffers, Encoding: Base 128 Varints)
abbrev pub OneVarint : Type 0
OneVarint =
    (a b u v : List ℕ) (x y : ℕ) → IsVarint a x → IsVarint b y → a ++ u ≡ b ++ v → (a ≡ b) × (x ≡ y)

-- No field begins another, and each is one field. (Protocol Buffers, Encoding: Message Structure)
abbrev pub OneField : Type 0
OneField =
    (a b u v : List ℕ) (f g : Field) → IsField a f → IsField b g → a ++ u ≡ b ++ v →
    (a ≡ b) × (f ≡ g)

-- A row of fields is read, without a fault, just where it is spelled. (Protocol Buffers, Encoding:
-- Message Structure)
abbrev pub RowIsSpelled : Type 0
RowIsSpelled = (bs : List ℕ) (fields : List Field) → IsRow bs fields ↔ Reads (row bs) fields

-- A message that is written is read, all of it and without a fault, by each table that can be
-- written. Lengths have 64 bits. (Protocol Buffers, Encoding)
abbrev pub WrittenIsRead : Type 0
WrittenIsRead =
    (t : Table) (r : Message t) → is_table 0 t ≡ true → IsMessage t r → length (canon t r) < 2 ^ 64
    → meaning t (canon t r) ≡ done r
