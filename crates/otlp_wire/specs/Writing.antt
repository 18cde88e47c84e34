-- What a writer puts after the bytes of a vector (Protocol Buffers, Encoding).
use Rattle.std.specs.Prelude.{◌≡◌, ℕ, ◌+◌, ◌≤◌, List, ◌++◌, length, take, drop, Vec, vec_len}
use Rattle.std.specs.Prelude.{vec_capacity}
use Rattle.model_message.specs.Wire.{Payload}
use Rattle.model_message.specs.Spelling.{IsVarint, IsPayload}
use Rattle.model_message.specs.Canon.{payload_bytes}

-- the new bytes are the old ones, with a spelling of the payload after them
pub record Appends (p : Payload) (old new : List ℕ) : Type 0 where
  pub spelling : List ℕ
  pub spells : IsPayload spelling p
  pub whole : new ≡ old ++ spelling

-- the vector takes the payload without growing
abbrev pub FitsCapacity : {A : Type 0} → Payload → Vec ℕ A → Type 0
FitsCapacity p v = vec_len v + length (payload_bytes p) ≤ vec_capacity v

-- no spelling of the number as a varint has fewer bytes
abbrev pub IsLeastSize : ℕ → ℕ → Type 0
IsLeastSize n size = (bytes : List ℕ) → IsVarint bytes n → size ≤ length bytes

-- some spelling of the number as a varint has this number of bytes
pub record IsReachedSize (n size : ℕ) : Type 0 where
  pub spelling : List ℕ
  pub spells : IsVarint spelling n
  pub exact : length spelling ≡ size

-- these bytes have room from the place on
abbrev pub FitsAt : List ℕ → ℕ → List ℕ → Type 0
FitsAt bytes at out = at + length bytes ≤ length out

-- the bytes are written from the place up to the next one, and nothing else is changed
pub record PutsAt (bytes : List ℕ) (at : ℕ) (old new : List ℕ) (next : ℕ) : Type 0 where
  pub place : next ≡ at + length bytes
  pub front : take next new ≡ take at old ++ bytes
  pub appended : drop next new ≡ drop next old
