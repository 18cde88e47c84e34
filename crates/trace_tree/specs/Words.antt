-- The words of a line.
use Rattle.std.specs.Prelude.{ℕ, ◌-◌, ◌/◌, ◌%◌, Bool, true, false, nat_lt, nat_le, ◌||◌}
use Rattle.std.specs.Prelude.{if◌then◌else◌, List, [], ◌∷◌, ◌++◌, length, take, replicate, codes}
use Rattle.std.specs.Prelude.{decimal, encode_utf8_all}
use Rattle.ucd_category.specs.GeneralCategory.{general_category}
use Rattle.ucd_category.specs.declared.GeneralCategory.{GeneralCategory}
use Rattle.ucd_category.specs.declared.GeneralCategory.TheVariants.{Control, Format}
use Rattle.ucd_category.specs.declared.GeneralCategory.TheVariants.{LineSeparator}
use Rattle.ucd_category.specs.declared.GeneralCategory.TheVariants.{ParagraphSeparator}
use Rattle.ucd_derived.specs.Binary.{is_default_ignorable_code_point}
use Rattle.trace_tree.specs.declared.span.Place.{Place}
use Rattle.trace_tree.specs.declared.span.Place.TheVariants.{Root, Child, Orphan, Cycle}

-- a character's General_Category (Unicode, section 4.5) by which it is no part of a line: Cc, Cf
-- (those that turn the direction of text among them), Zl and Zp
abbrev pub is_hidden_category : GeneralCategory → Bool
is_hidden_category Control = true
is_hidden_category Format = true
is_hidden_category LineSeparator = true
is_hidden_category ParagraphSeparator = true
is_hidden_category _ = false

-- a character that is no part of a line: by its category, or since it shows nothing
-- (Default_Ignorable_Code_Point: Unicode, section 5.21)
abbrev pub is_hidden_char : ℕ → Bool
is_hidden_char c = is_hidden_category (general_category c) || is_default_ignorable_code_point c

-- what is shown of a character: `?` (63) for a hidden one
abbrev pub shown_char : ℕ → ℕ
shown_char c = if is_hidden_char c then 63 else c

-- a name in this many columns: with spaces (32) after it, or cut, with `~` (126) in the last column
unfoldable pub name_text : ℕ → List ℕ → List ℕ
name_text room shown =
    if nat_le (length shown) room
    then encode_utf8_all shown ++ replicate (room - length shown) 32
    else encode_utf8_all (take (room - 1) shown) ++ 126 ∷ []

-- a time with three digits, in a unit of this many nanoseconds
unfoldable pub scaled : ℕ → ℕ → List ℕ → List ℕ
scaled nanos unit name =
    if nat_lt (nanos / unit) 10 then decimal (nanos / unit) ++ codes "."
    ++ decimal (nanos % unit / (unit / 10)) ++ decimal (nanos % unit / (unit / 100) % 10) ++ name
    else (if nat_lt (nanos / unit) 100
    then decimal (nanos / unit) ++ codes "." ++ decimal (nanos % unit / (unit / 10)) ++ name
    else decimal (nanos / unit) ++ name)

-- a time in microseconds, milliseconds or seconds
abbrev pub duration_text : ℕ → List ℕ
duration_text nanos =
    if nat_lt nanos 1_000_000 then scaled nanos 1_000 (codes "us")
    else (if nat_lt nanos 1_000_000_000 then scaled nanos 1_000_000 (codes "ms")
    else scaled nanos 1_000_000_000 (codes "s"))

-- whether the span is an error, and why it is at the top
abbrev pub error_text : Bool → List ℕ
error_text true = codes "  error"
error_text false = []

abbrev pub place_text : Place → List ℕ
place_text Root = []
place_text Child = []
place_text Orphan = codes "  parent not received"
place_text Cycle = codes "  cycle"
