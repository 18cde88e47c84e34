-- What is read of the rows in the bytes of a page.
use Rattle.std.specs.Prelude.{ℕ, ◌==◌, Bool, if◌then◌else◌, List, [], ◌∷◌, ◌++◌, length, drop}
use Rattle.std.specs.Prelude.{codes}
use Rattle.std.specs.List.{before_first, starts_with}
use Rattle.std.specs.Str.Parse.{digits_value}

-- what a row begins with, up to the place of its span
abbrev pub row_start : List ℕ
row_start = codes "<li data-row='"

-- whether a row begins here
abbrev pub begins_row : List ℕ → Bool
begins_row bytes = starts_with (λ a b. a == b) bytes row_start

-- the number that the digits before the next `'` (39) write
abbrev pub number_in : List ℕ → ℕ
number_in bytes = digits_value 10 (before_first (λ b. b == 39) bytes)

-- the place of the row that begins here, if one does
abbrev pub place_here : List ℕ → List ℕ
place_here bytes =
    if begins_row bytes then number_in (drop (length row_start) bytes) ∷ [] else []

-- The places that the rows of a page show, one after the other: wherever `<li data-row='` is in its
-- bytes, the number up to the next `'`.
unfoldable pub places_in : List ℕ → List ℕ
places_in [] = []
places_in (b ∷ bytes) = place_here (b ∷ bytes) ++ places_in bytes
