-- How a text is written into a page.
use Rattle.std.specs.Prelude.{ℕ, ◌==◌, if◌then◌else◌, List, [], ◌∷◌, codes}
use Rattle.std.specs.List.{flat_map}

-- What is read of a character: itself, or U+FFFD in place of NUL, which HTML can't spell.
abbrev pub shown_char : ℕ → ℕ
shown_char c = if c == 0 then 0xfffd else c

-- A character in a page: a reference for what a browser would read otherwise, or itself.
unfoldable pub char_markup : ℕ → List ℕ
char_markup c =
    if c == 38 then codes "&amp;"
    else (if c == 60 then codes "&lt;"
    else (if c == 62 then codes "&gt;"
    else (if c == 34 then codes "&quot;"
    else (if c == 39 then codes "&#39;"
    else (if c == 13 then codes "&#13;"
    else shown_char c ∷ [])))))

-- A text in a page: its characters, one after the other.
abbrev pub text_markup : List ℕ → List ℕ
text_markup text = flat_map char_markup text
