-- Messages that are read as they are written: texts are UTF-8, numbers have their room, and values
-- nest no deeper than they may. (Protocol Buffers, Language Guide: Scalar Value Types; the depth:
-- profile)
use Rattle.std.specs.Prelude.{◌≡◌, ℕ, zero, suc, pos, ◌<◌, ◌^◌, List, true}
use Rattle.std.specs.Int.{w64}
use Rattle.std.specs.Str.{is_utf8}
use Rattle.std.specs.List.{AllByRecursion}
use mir.Val.{SFits}
use Rattle.model_message.specs.AnyValue.{AnyValue, AnyValues, no_values, value, KeyValues, no_pairs}
use Rattle.model_message.specs.AnyValue.{pair}
use Rattle.model_message.specs.Tables.{Shape, text, bytes, bool, uint32, int64, enum, fixed64}
use Rattle.model_message.specs.Tables.{fixed32, any, message, repeated, Table, end, ◌⦂◌◂◌, ValueOf}
use Rattle.model_message.specs.Tables.{Message}
use Rattle.model_message.specs.Messages.{max_depth}

-- (Protocol Buffers, Language Guide: Scalar Value Types)
abbrev pub IsText : List ℕ → Type 0
IsText t = is_utf8 t ≡ true

-- each value of an array
abbrev pub EachValue : (AnyValue → Type 0) → AnyValues → Type 0
EachValue P no_values = Unit {0}
EachValue P (value v vs) = P v × EachValue P vs

-- each key of a list of pairs is a text, and of each value this holds
abbrev pub EachPair : (AnyValue → Type 0) → KeyValues → Type 0
EachPair P no_pairs = Unit {0}
EachPair P (pair k v ps) = IsText k × P v × EachPair P ps

-- the value by its kind, where of those in it this holds (opentelemetry-proto, common.proto:
-- AnyValue)
abbrev pub IsMember : (AnyValue → Type 0) → AnyValue → Type 0
IsMember P AnyValue.none = Unit {0}
IsMember P (AnyValue.text t) = IsText t
IsMember P (AnyValue.bool b) = Unit {0}
IsMember P (AnyValue.int i) = SFits w64 i
IsMember P (AnyValue.double d) = d < 2 ^ 64
IsMember P (AnyValue.array vs) = EachValue P vs
IsMember P (AnyValue.pairs ps) = EachPair P ps
IsMember P (AnyValue.bytes bs) = Unit {0}

-- A value with at most this number of levels. One that is none takes a level too, since it is
-- written, empty. (profile)
unfoldable pub IsValue : ℕ → AnyValue → Type 0
IsValue zero v = ⊥
IsValue (suc depth) v = IsMember (IsValue depth) v

abbrev mutual
  -- By the type of a field. An enum is not below 0, as none of the protocol's is. (Protocol
  -- Buffers, Language Guide: Scalar Value Types; enums from 0 up: profile)
  pub IsWhole : (s : Shape) → ValueOf s → Type 0
  IsWhole text t = IsText t
  IsWhole bytes bs = Unit {0}
  IsWhole bool b = Unit {0}
  IsWhole uint32 x = x < 2 ^ 32
  IsWhole int64 i = SFits w64 i
  IsWhole enum i = (k : ℕ) × (k < 2 ^ 31) × (i ≡ pos k)
  IsWhole fixed64 x = x < 2 ^ 64
  IsWhole fixed32 x = x < 2 ^ 32
  IsWhole any v = IsValue max_depth v
  IsWhole (message t) r = IsMessage t r
  IsWhole (repeated s) xs = AllByRecursion (λ x. IsWhole s x) xs

  -- each field of the table
  pub IsMessage : (t : Table) → Message t → Type 0
  IsMessage end r = Unit {0}
  IsMessage (n ⦂ s ◂ t) r = IsWhole s r.0 × IsMessage t r.1
