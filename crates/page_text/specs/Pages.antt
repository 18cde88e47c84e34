-- What a browser reads of the characters at a place where text may be.
use Rattle.std.specs.Prelude.{ℕ, ◌==◌, ◌||◌, Bool, not, if◌then◌else◌, List, [], ◌∷◌, ◌++◌, codes}
use Rattle.std.specs.Prelude.{Option, Some, None, option_map, option_and_then, bytes_eq}

-- A place in a page where text may be: between tags, or in a value of an attribute between two `"`
-- or two `'`. (HTML, "Data state", "Attribute value (double-quoted) state", "Attribute value
-- (single-quoted) state")
pub data Place : Type 0 where
  Content : Place
  DoubleQuoted : Place
  SingleQuoted : Place

-- The character that ends the text there: a tag begins at `<` (60), and the value ends at its
-- quote, `"` (34) or `'` (39).
abbrev pub end_of_text : Place → ℕ
end_of_text Content = 60
end_of_text DoubleQuoted = 34
end_of_text SingleQuoted = 39

-- The character of a reference, which is this between `&` and `;`. There are more, of which
-- nothing is said here. (HTML, "Named character references", "Decimal character reference state")
abbrev pub reference : List ℕ → Option ℕ
reference name =
    if bytes_eq name (codes "amp") then Some 38
    else (if bytes_eq name (codes "lt") then Some 60
    else (if bytes_eq name (codes "gt") then Some 62
    else (if bytes_eq name (codes "quot") then Some 34
    else (if bytes_eq name (codes "#39") then Some 39
    else (if bytes_eq name (codes "#13") then Some 13
    else None)))))

-- A character that a browser reads as itself: it doesn't end the text, and is neither NUL nor a
-- carriage return (13), which a browser replaces or leaves out. (HTML, "Preprocessing the input
-- stream")
abbrev pub is_plain : Place → ℕ → Bool
is_plain place c = not (c == end_of_text place || (c == 0 || c == 13))

-- one more character in front, if there is one and the others are read
abbrev pub in_front : Option ℕ → Option (List ℕ) → Option (List ℕ)
in_front first others = option_and_then (λ c. option_map (λ cs. c ∷ cs) others) first

-- What is read of characters, where this much of a reference was read before them.
abbrev pub read_from : Place → Option (List ℕ) → List ℕ → Option (List ℕ)
read_from place None [] = Some []
read_from place (Some name) [] = None
read_from place None (c ∷ cs) =
    if c == 38 then read_from place (Some []) cs
    else (if is_plain place c then in_front (Some c) (read_from place None cs) else None)
read_from place (Some name) (c ∷ cs) =
    if c == 59 then in_front (reference name) (read_from place None cs)
    else read_from place (Some (name ++ c ∷ [])) cs

-- The text that a browser reads of characters at a place, to their end: each character is itself,
-- and a reference, from `&` (38) to `;` (59), is its character. There is none where the text ends
-- before, with markup or the value's quote, and where this definition doesn't say what is read.
-- (HTML, "Data state", "Character reference state")
unfoldable pub read_text : Place → List ℕ → Option (List ℕ)
read_text place characters = read_from place None characters
