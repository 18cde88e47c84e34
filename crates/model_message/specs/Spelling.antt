-- What the bytes on the wire spell, as relations: a varint, a field, and a row of fields.
-- (Protocol Buffers, Encoding: Base 128 Varints, Message Structure)
use Rattle.std.specs.Prelude.{◌≡◌, ℕ, ◌+◌, ◌*◌, ◌%◌, ◌^◌, ◌<◌, ◌≤◌, List, [], ◌∷◌, ◌++◌, length}
use Rattle.std.specs.Int.{w32, w64, from_le_bytes}
use Rattle.model_message.specs.Wire.{Payload, varint, i64, len, i32, Field}
use Rattle.model_message.specs.Messages.{wire_type}

-- Each byte is at least 128, except the last. (Protocol Buffers, Encoding: Base 128 Varints)
abbrev pub IsEnded : List ℕ → Type 0
IsEnded [] = ⊥
IsEnded (b ∷ []) = b < 128
IsEnded (b ∷ c ∷ bs) = (128 ≤ b) × IsEnded (c ∷ bs)

-- the number of the low seven bits of each byte, the least first (Protocol Buffers, Encoding: Base
-- 128 Varints)
abbrev pub number_of_septets : List ℕ → ℕ
number_of_septets [] = 0
number_of_septets (b ∷ bs) = b % 128 + 128 * number_of_septets bs

-- A varint of the number: one to ten bytes, not always the shortest; bits past the 64th don't
-- count. (Protocol Buffers, Encoding: Base 128 Varints)
pub record IsVarint (bs : List ℕ) (n : ℕ) : Type 0 where
  pub ended : IsEnded bs
  pub size : length bs ≤ 10
  pub value : n ≡ number_of_septets bs % 2 ^ 64

-- the content after its length (Protocol Buffers, Encoding: Length-Delimited Records)
pub record IsCounted (bs content : List ℕ) : Type 0 where
  pub size : List ℕ
  pub count : IsVarint size (length content)
  pub whole : bs ≡ size ++ content

-- by its wire type; a fixed number has its least byte first (Protocol Buffers, Encoding: Message
-- Structure, Non-varint Numbers)
abbrev pub IsPayload : List ℕ → Payload → Type 0
IsPayload bs (varint n) = IsVarint bs n
IsPayload bs (i64 n) = (length bs ≡ 8) × (n ≡ from_le_bytes w64 bs)
IsPayload bs (len content) = IsCounted bs content
IsPayload bs (i32 n) = (length bs ≡ 4) × (n ≡ from_le_bytes w32 bs)

-- A tag, which is the field's number times 8 plus its wire type, and the payload. Numbers are from
-- 1 to 2^29 - 1. (Protocol Buffers, Encoding: Message Structure; Language Guide: Assigning Field
-- Numbers)
pub record IsField (bs : List ℕ) (f : Field) : Type 0 where
  pub tag : List ℕ
  pub rest : List ℕ
  pub is_tag : IsVarint tag (f.number * 8 + wire_type f.payload)
  pub positive : 0 < f.number
  pub in_range : f.number < 2 ^ 29
  pub payload : IsPayload rest f.payload
  pub whole : bs ≡ tag ++ rest

-- the fields' spellings, one after the other, and nothing else (Protocol Buffers, Encoding:
-- Message Structure)
abbrev pub IsRow : List ℕ → List Field → Type 0
IsRow bs [] = bs ≡ []
IsRow bs (f ∷ fields) =
    (front : List ℕ) × (rest : List ℕ) × IsField front f × IsRow rest fields × (bs ≡ front ++ rest)
