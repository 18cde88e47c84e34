-- What a message can have that was read: texts are UTF-8, bytes and numbers have their room, and
-- values nest no deeper than 64 levels. (Protocol Buffers, Language Guide: Scalar Value Types; the
-- depth: profile)
use Rattle.std.specs.Prelude.{ℕ, zero, suc, ◌<◌, ◌^◌}
use Rattle.std.specs.Int.{w32, w64}
use Rattle.std.specs.List.{AllByRecursion}
use mir.Val.{SFits}
use Rattle.base64.specs.GeneralPurpose.{IsBytes}
use Rattle.model_message.specs.AnyValue.{AnyValue}
use Rattle.model_message.specs.Messages.{Triple, max_depth}
use Rattle.model_message.specs.Tables
use Rattle.model_message.specs.Tables.{Shape, text, bytes, bool, uint32, int64, enum, fixed64}
use Rattle.model_message.specs.Tables.{fixed32, any, message, repeated, Table, end, ◌⦂◌◂◌, ValueOf}
use Rattle.model_message.specs.Tables.{Message}
use Rattle.model_message.specs.Whole.{IsText, EachValue, EachPair}

-- the value of a pair: one of which this holds, or none
abbrev pub IsPairValue : (AnyValue → Type 0) → AnyValue → Type 0
IsPairValue P AnyValue.none = Unit {0}
IsPairValue P v = P v

-- the value by its kind, where of those in it this holds
abbrev pub IsSoundMember : (AnyValue → Type 0) → AnyValue → Type 0
IsSoundMember P AnyValue.none = Unit {0}
IsSoundMember P (AnyValue.text t) = IsText t
IsSoundMember P (AnyValue.bool b) = Unit {0}
IsSoundMember P (AnyValue.int i) = SFits w64 i
IsSoundMember P (AnyValue.double d) = d < 2 ^ 64
IsSoundMember P (AnyValue.array vs) = EachValue P vs
IsSoundMember P (AnyValue.pairs ps) = EachPair (IsPairValue P) ps
IsSoundMember P (AnyValue.bytes bs) = IsBytes bs

-- A value with at most this number of levels. One that is none takes a level in an array, where it
-- is written, empty; a pair is written without it.
unfoldable pub IsSoundValue : ℕ → AnyValue → Type 0
IsSoundValue zero v = ⊥
IsSoundValue (suc depth) v = IsSoundMember (IsSoundValue depth) v

-- ---- messages, whose values are such that this holds

abbrev mutual
  -- by the type of a field; an enumeration has 32 bits and a sign
  pub IsSoundBy : (AnyValue → Type 0) → (s : Shape) → ValueOf s → Type 0
  IsSoundBy P text t = IsText t
  IsSoundBy P bytes bs = IsBytes bs
  IsSoundBy P bool b = Unit {0}
  IsSoundBy P uint32 x = x < 2 ^ 32
  IsSoundBy P int64 i = SFits w64 i
  IsSoundBy P enum i = SFits w32 i
  IsSoundBy P fixed64 x = x < 2 ^ 64
  IsSoundBy P fixed32 x = x < 2 ^ 32
  IsSoundBy P any v = P v
  IsSoundBy P (message t) r = AreSoundBy P t r
  IsSoundBy P (repeated s) xs = AllByRecursion (λ x. IsSoundBy P s x) xs

  -- each field of a message
  pub AreSoundBy : (AnyValue → Type 0) → (t : Table) → Message t → Type 0
  AreSoundBy P end r = Unit {0}
  AreSoundBy P (n ⦂ s ◂ t) r = IsSoundBy P s r.0 × AreSoundBy P t r.1

-- the same where values nest no deeper than 64 levels
abbrev pub IsSound : (s : Shape) → ValueOf s → Type 0
IsSound s x = IsSoundBy (IsSoundValue max_depth) s x

abbrev pub IsSoundMessage : (t : Table) → Message t → Type 0
IsSoundMessage t r = AreSoundBy (IsSoundValue max_depth) t r

-- a span, with its resource and its scope
pub record IsSoundTriple (t : Triple) : Type 0 where
  pub resource : IsSoundMessage Tables.resource t.resource
  pub resource_schema : IsText t.resource_schema
  pub scope : IsSoundMessage Tables.scope t.scope
  pub scope_schema : IsText t.scope_schema
  pub span : IsSoundMessage Tables.span t.span
