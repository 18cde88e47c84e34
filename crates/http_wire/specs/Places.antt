-- Where in a head one is, by the bytes so far (RFC 9112, sections 2.1 and 2.2; where heads are
-- parsed: profile).
use Rattle.std.specs.Prelude.{◌≡◌, ◌≢◌, ◌⊎◌, ℕ, Bool, true, false, List, [], ◌∷◌, ◌++◌}
use Rattle.httparse.specs.Ascii.{line_feed, carriage_return}
use Rattle.httparse.specs.Grammar.{LineEnd, print_blank}
use Rattle.http_wire.specs.declared.place.HeadPlace.{HeadPlace}
use Rattle.http_wire.specs.declared.place.LinePart.{LinePart}
use Rattle.http_wire.specs.declared.place.LinePart.TheVariants as parts

-- whole lines: nothing, or what ends in a line feed
abbrev pub AreLines : List ℕ → Type 0
AreLines text = (text ≡ []) ⊎ ((front : List ℕ) × (text ≡ front ++ line_feed ∷ []))

-- empty lines alone, which may be in front of a head
abbrev pub AreBlank : List ℕ → Type 0
AreBlank lines = (ends : List LineEnd) × (lines ≡ print_blank ends)

-- no part of it is a line feed
abbrev pub IsUnended : List ℕ → Type 0
IsUnended line = (front rest : List ℕ) → line ≢ front ++ line_feed ∷ rest

-- a line that is empty if a line feed ends it: nothing came, or a CR alone
abbrev pub IsEmptyLine : List ℕ → Type 0
IsEmptyLine line = (line ≡ []) ⊎ (line ≡ carriage_return ∷ [])

-- after the last byte of the text a parse is due: it ends the first line that isn't empty, or an
-- empty line after that
pub record IsDue (text : List ℕ) : Type 0 where
  pub lines : List ℕ
  pub line : List ℕ
  pub whole : text ≡ lines ++ (line ++ line_feed ∷ [])
  pub ended : AreLines lines
  pub unended : IsUnended line
  pub due : (AreBlank lines × ¬ (IsEmptyLine line)) ⊎ (¬ (AreBlank lines) × IsEmptyLine line)

-- a line that isn't empty has ended, or none has
abbrev pub HasBegun : Bool → List ℕ → Type 0
HasBegun true lines = ¬ (AreBlank lines)
HasBegun false lines = AreBlank lines

-- what came of the last line
abbrev pub IsPart : LinePart → List ℕ → Type 0
IsPart parts.Nothing line = line ≡ []
IsPart parts.Return line = line ≡ carriage_return ∷ []
IsPart parts.Text line = ¬ (IsEmptyLine line)

-- more than a CR came of it
abbrev pub is_text : LinePart → Bool
is_text parts.Nothing = false
is_text parts.Return = false
is_text parts.Text = true

-- the place is that after this text: whole lines, and a line that has no end yet
pub record IsPlace (text : List ℕ) (place : HeadPlace) : Type 0 where
  pub lines : List ℕ
  pub line : List ℕ
  pub whole : text ≡ lines ++ line
  pub ended : AreLines lines
  pub unended : IsUnended line
  pub begun : HasBegun place.begun lines
  pub part : IsPart place.line line
