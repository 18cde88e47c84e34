-- What was gathered of the fields of a value. (opentelemetry-proto, common.proto: AnyValue;
-- Protocol Buffers, Encoding: Oneofs)
use Rattle.std.specs.Prelude.{◌≡◌, ℕ, List, [], ◌∷◌, map, filter, reverse, is_some}
use Rattle.std.specs.Borrow.{Bor}
use Rattle.model_message.specs.Wire
use Rattle.model_message.specs.Wire.{Field, varint, i64, len}
use Rattle.model_message.specs.Messages.{member_of, last_run, joined_rows, payloads, last_bytes}
use Rattle.model_message.specs.Tables.{text, any}
use Rattle.otlp_read.specs.declared.any_value.Member.{Member}
use Rattle.otlp_read.specs.declared.any_value.Member.TheVariants.{Empty, Text, Bool, Int, Double}
use Rattle.otlp_read.specs.declared.any_value.Member.TheVariants.{Array, Pairs, Bytes}
use Rattle.otlp_read.specs.declared.any_value.PairParts.{PairParts}

-- those of some fields that are members of a value, from the last
unfoldable pub members_from_last : List Field → List Field
members_from_last fields = reverse (filter (λ f. is_some (member_of f)) fields)

-- length-delimited payloads
abbrev pub parts_view : List (Bor (List ℕ)) → List Wire.Payload
parts_view parts = map (λ part. len part.now) parts

-- the last unbroken run of arrays, and of lists of pairs
abbrev pub array_run : List Field → List Wire.Payload
array_run back = last_run 5 back

abbrev pub pairs_run : List Field → List Wire.Payload
pairs_run back = last_run 6 back

-- the last of the members, which are given from the last, is this field
pub record Begins (n : ℕ) (p : Wire.Payload) (back : List Field) : Type 0 where
  pub others : List Field
  pub whole : back ≡ record { number = n; payload = p } ∷ others

-- it is of this number, and has these payloads in its last unbroken run
pub record Runs (n : ℕ) (ps : List Wire.Payload) (back : List Field) : Type 0 where
  pub last : List ℕ
  pub others : List Field
  pub whole : back ≡ record { number = n; payload = len last } ∷ others
  pub run : ps ≡ last_run n back

-- This is what counts of the members, which are given from the last.
abbrev pub Holds : {A : Type 0} → Member A → List Field → Type 0
Holds Empty back = back ≡ []
Holds (Text t) back = Begins 1 (len t.now) back
Holds (Bool n) back = Begins 2 (varint n) back
Holds (Int n) back = Begins 3 (varint n) back
Holds (Double n) back = Begins 4 (i64 n) back
Holds (Array v) back = Runs 5 (parts_view v.items) back
Holds (Pairs v) back = Runs 6 (parts_view v.items) back
Holds (Bytes b) back = Begins 7 (len b.now) back

-- This is what counts of the fields of a pair, where a value may have `depth` levels.
pub record HoldsPair {A : Type 0} (depth : ℕ) (parts : PairParts A) (fields : List Field)
    : Type 0 where
  pub key : parts.key.now ≡ last_bytes (payloads 1 text fields)
  pub whole : (joined_rows (payloads 2 any fields)).faults ≡ []
  pub value : Holds parts.value (members_from_last (joined_rows (payloads 2 any fields)).value)
  pub room : depth ≡ 0 → payloads 2 any fields ≡ []
