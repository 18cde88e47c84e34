-- What is written of a message into a sink: its bytes, and that it is one that can be read.
use Rattle.std.specs.Prelude.{◌≡◌, ℕ, ◌+◌, ◌-◌, ◌≤◌, ◌<◌, ◌^◌, List, ◌++◌, length, map, min, Bool}
use Rattle.std.specs.Prelude.{true, false}
use Rattle.std.specs.List.{AllByRecursion}
use Rattle.model_span.specs.Spans.{SpanData}
use Rattle.model_export.specs.Export.{span_message}
use Rattle.model_message.specs.Tables
use Rattle.model_message.specs.Tables.{Shape, Table, ValueOf, Message}
use Rattle.model_message.specs.Canon.{canon, shape_bytes}
use Rattle.model_message.specs.Whole.{IsWhole, IsMessage}

-- ---- sinks

-- what a sink has taken
pub data Cursor : Type 0 where
  -- how many bytes
  counted : ℕ → Cursor
  -- which bytes, and for how many more there is room
  filled : List ℕ → ℕ → Cursor

-- a count of 64 bits, where 2^64 - 1 means that many and more
abbrev pub saturated : ℕ → ℕ
saturated n = min n (2 ^ 64 - 1)

-- The bytes are laid after what the sink had taken. Nothing is said of a buffer that has no room
-- for them.
abbrev pub Lays : List ℕ → Cursor → Cursor → Type 0
Lays bytes (counted n) (counted m) = saturated m ≡ saturated (n + length bytes)
Lays bytes (counted n) (filled front room) = ⊥
Lays bytes (filled front room) new =
    length bytes ≤ room → room < 2 ^ 64 → new ≡ filled (front ++ bytes) (room - length bytes)

-- A sink that only counts takes any bytes of this length at once; another is unchanged.
abbrev pub Skips : ℕ → Bool → Cursor → Cursor → Type 0
Skips len true old new = (bytes : List ℕ) → len ≡ saturated (length bytes) → Lays bytes old new
Skips len false old new = new ≡ old

-- ---- messages

-- the bytes are laid, and what they are the bytes of can be read
pub record Carries (content : List ℕ) (Whole : Type 0) (old new : Cursor) : Type 0 where
  pub bytes : Lays content old new
  pub whole : Whole

-- how many bytes there are, and what they are the bytes of can be read
pub record Measures (content : List ℕ) (Whole : Type 0) (len : ℕ) : Type 0 where
  pub size : len ≡ saturated (length content)
  pub whole : Whole

-- a field of a table, put after what is there
pub record Puts (n : ℕ) (s : Shape) (x : ValueOf s) (old new : Cursor) : Type 0 where
  pub bytes : Lays (shape_bytes n s x) old new
  pub whole : IsWhole s x

-- the fields of a table, put after what is there
pub record PutsAll (t : Table) (r : Message t) (old new : Cursor) : Type 0 where
  pub bytes : Lays (canon t r) old new
  pub whole : IsMessage t r

-- ---- lengths of spans

-- the message of an ended span, as bytes
abbrev pub span_bytes : SpanData → List ℕ
span_bytes x = canon Tables.span (span_message x.span)

-- it can be read
abbrev pub IsWholeSpan : SpanData → Type 0
IsWholeSpan x = IsMessage Tables.span (span_message x.span)

-- how many bytes it has
abbrev pub span_len : SpanData → ℕ
span_len x = saturated (length (span_bytes x))

-- the lengths of these spans, put after what is there
pub record AddsLens (spans : List SpanData) (old new : List ℕ) : Type 0 where
  pub lens : new ≡ old ++ map span_len spans
  pub whole : AllByRecursion IsWholeSpan spans

-- the lengths of these spans come first
pub record BeginLens (spans : List SpanData) (all : List ℕ) : Type 0 where
  pub appended : List ℕ
  pub lens : all ≡ map span_len spans ++ appended
  pub whole : AllByRecursion IsWholeSpan spans
