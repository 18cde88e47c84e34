-- Protocol Buffers on the wire: varints, fields, and the row of fields that some bytes are cut
-- into. `specs/Spelling.antt` says the same by relations, without an order of reading. (Protocol
-- Buffers, Encoding)
use Rattle.std.specs.Prelude.{ℕ, zero, suc, ◌+◌, ◌-◌, ◌*◌, ◌/◌, ◌%◌, ◌^◌, List, [], ◌∷◌, length}
use Rattle.std.specs.Prelude.{take, drop, Bool, ◌&&◌, Result, Ok, Err, nat_lt, ◌==◌, if◌then◌else◌}
use Rattle.std.specs.Int.{w32, w64, from_le_bytes}
use Rattle.model_message.specs.Reading.{Reading, Fault, truncated, long_varint, bad_number, group}
use Rattle.model_message.specs.Reading.{bad_wire_type, done}

-- What a field holds, named by its wire type: VARINT 0, I64 1, LEN 2, I32 5. Each number is what
-- the bits spell without a sign. (Protocol Buffers, Encoding: Message Structure)
pub data Payload : Type 0 where
  varint : ℕ → Payload
  i64 : ℕ → Payload
  len : List ℕ → Payload
  i32 : ℕ → Payload

-- a record of a message: a field's number and its payload (Protocol Buffers, Encoding: Message
-- Structure)
pub record Field : Type 0 where
  pub number : ℕ
  pub payload : Payload

-- something that is at the front of some bytes, with the bytes after it, or the fault that
-- is there
abbrev pub Front : Type 0 → Type 0
Front A = List ℕ → Result (A × List ℕ) Fault

-- this value, without a byte
abbrev pub give : {A : Type 0} → A → Front A
give x bs = Ok (x, bs)

-- this fault, whatever bytes follow
abbrev pub fail : {A : Type 0} → Fault → Front A
fail f bs = Err f

-- what comes after it, or its fault
abbrev pub after : {A B : Type 0} → Result (A × List ℕ) Fault → (A → Front B)
    → Result (B × List ℕ) Fault
after (Ok x) next = next x.0 x.1
after (Err f) next = Err f

-- one after the other
infixl 10 ◌>>=◌
abbrev pub ◌>>=◌ : {A B : Type 0} → Front A → (A → Front B) → Front B
◌>>=◌ read next = λ bs. after (read bs) next

-- the next bytes, of this number, or `truncated` where fewer are left
abbrev pub next_bytes : ℕ → Front (List ℕ)
next_bytes n bs = if nat_lt (length bs) n then Err truncated else Ok (take n bs, drop n bs)

-- Groups of seven bits, the least first, at most this number of them. Each but the last is a byte
-- of at least 128. (Protocol Buffers, Encoding: Base 128 Varints)
unfoldable pub septets : ℕ → Front ℕ
septets zero bs = Err long_varint
septets (suc room) [] = Err truncated
septets (suc room) (b ∷ bs) =
    if nat_lt b 128 then Ok (b, bs)
    else after (septets room bs) (λ high. give (b % 128 + 128 * high))

-- a varint: at most ten groups, of whose number the low 64 bits count (Protocol Buffers, Encoding:
-- Base 128 Varints)
unfoldable pub number : Front ℕ
number = do
  n ← septets 10
  give (n % 2 ^ 64)

-- what is there, with its value changed
abbrev pub map_front : {A B : Type 0} → (A → B) → Front A → Front B
map_front f read = read >>= (λ x. give (f x))

-- a length, and that number of bytes (Protocol Buffers, Encoding: Length-Delimited Records)
abbrev pub counted_bytes : Front (List ℕ)
counted_bytes = do
  n ← number
  next_bytes n

-- The payload of a wire type, fixed numbers with their least byte first. (Protocol Buffers,
-- Encoding: Message Structure, Non-varint Numbers) A group's types, 3 and 4, are refused: (profile)
unfoldable pub payload : ℕ → Front Payload
payload wire =
    if wire == 0 then map_front varint number
    else if wire == 1 then map_front (λ bs. i64 (from_le_bytes w64 bs)) (next_bytes 8)
    else if wire == 2 then map_front len counted_bytes
    else if wire == 5 then map_front (λ bs. i32 (from_le_bytes w32 bs)) (next_bytes 4)
    else fail (if nat_lt wire 5 then group else bad_wire_type)

-- from 1 to 2^29 - 1 (Protocol Buffers, Language Guide: Assigning Field Numbers)
abbrev pub is_field_number : ℕ → Bool
is_field_number n = nat_lt 0 n && nat_lt n (2 ^ 29)

-- A field: its tag, which is the number times 8 plus the wire type, and the payload of that type. A
-- bad number is reported before a bad type. (Protocol Buffers, Encoding: Message Structure)
unfoldable pub field : Front Field
unfolding number payload
field = do
  tag ← number
  p ← if is_field_number (tag / 8) then payload (tag % 8) else fail bad_number
  give (record { number = tag / 8; payload = p })

-- a row with a field put before it
abbrev pub put : Field → Reading (List Field) → Reading (List Field)
put f r = record { value = f ∷ r.value; faults = r.faults }

-- a field and the row after it, or the fault in its place
abbrev pub row_from : Result (Field × List ℕ) Fault → (List ℕ → Reading (List Field))
    → Reading (List Field)
row_from (Ok x) rest = put x.0 (rest x.1)
row_from (Err f) rest = record { value = []; faults = f ∷ [] }

-- The row of the bytes that are left after this number of bytes, which are those of the last field
-- that are still to come.
unfoldable pub row_after : ℕ → List ℕ → Reading (List Field)
unfolding field
row_after skip [] = done []
row_after (suc skip) (b ∷ bs) = row_after skip bs
row_after zero (b ∷ bs) = row_from (field (b ∷ bs)) (λ rest. row_after (length bs - length rest) bs)

-- The row of fields of a message's bytes: the fields up to the first place that has none, with
-- the fault that is there. (Protocol Buffers, Encoding: Message Structure; what is kept before
-- a fault: profile)
unfoldable pub row : List ℕ → Reading (List Field)
unfolding row_after
row bs = row_after 0 bs
