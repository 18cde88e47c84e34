-- What is at a place where no field is. (Protocol Buffers, Encoding: Base 128 Varints, Message
-- Structure; Language Guide: Assigning Field Numbers)
use Rattle.std.specs.Prelude.{◌≡◌, ◌≢◌, ◌⊎◌, ◌↔◌, ℕ, ◌≤◌, ◌/◌, ◌%◌, List, [], ◌∷◌, ◌++◌, length}
use Rattle.std.specs.Prelude.{true, false, Err}
use Rattle.model_message.specs.Reading.{Fault, truncated, long_varint, bad_number, group}
use Rattle.model_message.specs.Reading.{bad_wire_type, bad_utf8, too_deep}
use Rattle.model_message.specs.Wire.{Field, field, row, is_field_number}
use Rattle.model_message.specs.Spelling.{IsVarint, IsField, IsRow}

-- each byte is at least 128
abbrev pub AreHigh : List ℕ → Type 0
AreHigh [] = Unit {0}
AreHigh (b ∷ bs) = (128 ≤ b) × AreHigh bs

-- Ten bytes of at least 128 are at the front. (Encoding: Base 128 Varints)
pub record IsLongVarint (bs : List ℕ) : Type 0 where
  pub front : List ℕ
  pub rest : List ℕ
  pub high : AreHigh front
  pub size : length front ≡ 10
  pub whole : bs ≡ front ++ rest

-- A tag is at the front, which is this number as a varint, and these bytes after it.
pub record HasTag (bs : List ℕ) (tag : ℕ) (rest : List ℕ) : Type 0 where
  pub front : List ℕ
  pub spelled : IsVarint front tag
  pub whole : bs ≡ front ++ rest

-- A tag is at the front whose field number a field may have, and of whose wire type this holds.
-- (Encoding: Message Structure)
abbrev pub HasType : (ℕ → Type 0) → List ℕ → Type 0
HasType P bs =
    (tag : ℕ) × (rest : List ℕ) × HasTag bs tag rest × (is_field_number (tag / 8) ≡ true)
    × P (tag % 8)

-- With some more bytes after them, the bytes are a field, or a varint in the place of the tag.
abbrev pub IsCutOff : List ℕ → Type 0
IsCutOff bs =
    (more : List ℕ) × (more ≢ [])
    × (((f : Field) × IsField (bs ++ more) f) ⊎ ((tag : ℕ) × IsVarint (bs ++ more) tag))

-- A long varint is in the place of the tag, or after the tag in that of a number or a length.
abbrev pub HasLongVarint : List ℕ → Type 0
HasLongVarint bs =
    IsLongVarint bs
    ⊎ ((tag : ℕ) × (rest : List ℕ) × HasTag bs tag rest × (is_field_number (tag / 8) ≡ true)
    × ((tag % 8 ≡ 0) ⊎ (tag % 8 ≡ 2)) × IsLongVarint rest)

-- What each fault says of the front of some bytes. A bad field number is reported before a bad wire
-- type. Texts and depths are tested only in what a field holds. (that groups are refused, and which
-- of two faults is reported: profile)
abbrev pub Stands : Fault → List ℕ → Type 0
Stands truncated bs = IsCutOff bs
Stands long_varint bs = HasLongVarint bs
Stands bad_number bs =
    (tag : ℕ) × (rest : List ℕ) × HasTag bs tag rest × (is_field_number (tag / 8) ≡ false)
Stands group bs = HasType (λ wire. (wire ≡ 3) ⊎ (wire ≡ 4)) bs
Stands bad_wire_type bs = HasType (λ wire. (wire ≡ 6) ⊎ (wire ≡ 7)) bs
Stands bad_utf8 bs = ⊥
Stands too_deep bs = ⊥

-- The front of some bytes is refused with a fault just where what the fault says is there.
abbrev pub FaultsSayWhatStands : Type 0
FaultsSayWhatStands = (bs : List ℕ) (f : Fault) → (field bs ≡ Err f) ↔ Stands f bs

-- After these fields some bytes are left that begin with no field, but with what the fault says.
pub record StopsAfter (bs : List ℕ) (fields : List Field) (f : Fault) : Type 0 where
  pub front : List ℕ
  pub rest : List ℕ
  pub spelled : IsRow front fields
  pub more : rest ≢ []
  pub stands : Stands f rest
  pub whole : bs ≡ front ++ rest

-- A row with a fault has just the fields before the first place that has no field, and the
-- fault says what is there. (that the fields before a fault count: profile)
abbrev pub RowStopsAtTheFault : Type 0
RowStopsAtTheFault =
    (bs : List ℕ) (fields : List Field) (f : Fault)
    → (row bs ≡ record { value = fields; faults = f ∷ [] }) ↔ StopsAfter bs fields f
