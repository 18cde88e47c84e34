-- A reading: a value, and each fault that was met on the way to it. The bytes have a reading only
-- where no fault is. (Protocol Buffers, Encoding; to name each fault is of the profile)
use Rattle.std.specs.Prelude.{◌≡◌, List, [], ◌∷◌, ◌++◌}

-- What can be wrong with bytes. The first five are of fields (Protocol Buffers, Encoding: Base 128
-- Varints, Message Structure), a text's is of proto3's type string (Language Guide: Scalar Value
-- Types). Groups and depth: (profile)
pub data Fault : Type 0 where
  truncated long_varint bad_number group bad_wire_type bad_utf8 too_deep : Fault

-- the value that would be read if no fault counted, and the faults in the order in which they are
-- met
pub record Reading (A : Type 0) : Type 0 where
  pub value : A
  pub faults : List Fault

-- a value, without a fault
abbrev pub done : {A : Type 0} → A → Reading A
done x = record { value = x; faults = [] }

-- reads on with the value, whatever faults were met
infixl 10 ◌>>=◌
abbrev pub ◌>>=◌ : {A B : Type 0} → Reading A → (A → Reading B) → Reading B
r >>= next = let s = next r.value in record { value = s.value; faults = r.faults ++ s.faults }

-- reads one after another, and keeps the faults of all
abbrev pub each : {A B : Type 0} → (A → Reading B) → List A → Reading (List B)
each read [] = done []
each read (x ∷ xs) = do
  first ← read x
  others ← each read xs
  done (first ∷ others)

-- There is no fault, and the value is this one.
abbrev pub Reads : {A : Type 0} → Reading A → A → Type 0
Reads r x = (r.faults ≡ []) × (r.value ≡ x)
