-- What is written of a page, part after part.
use Rattle.std.specs.Prelude.{◌≡◌, ℕ, ℤ, Bool, ◌==◌, if◌then◌else◌, List, [], ◌∷◌, ◌++◌}
use Rattle.std.specs.Prelude.{String, decimal, encode_utf8_all, length, string_bytes}
use Rattle.std.specs.Fmt.{signed_decimal}
use Rattle.std.specs.Str.{chars}
use Rattle.hex.specs.Hex.{encode_lower}
use Rattle.page_text.specs.Written.{text_markup}

infixr 20 ◌▹◌
-- A part of a page. What comes from outside is a text, a number or bytes, and never markup.
pub data Html : Type 0 where
  -- no part
  Nothing : Html
  -- what the template says
  Markup : List ℕ → Html
  -- a text from outside
  Text : List ℕ → Html
  -- a number, without a sign and with one
  Number : ℕ → Html
  Signed : ℤ → Html
  -- bytes by two hexadecimal digits each
  Digits : List ℕ → Html
  -- a part, and then another
  ◌▹◌ : Html → Html → Html

-- the bytes of a text in a page, where a browser reads the text again
abbrev pub text_bytes : List ℕ → List ℕ
text_bytes text = encode_utf8_all (text_markup (chars text))

-- the bytes of parts
unfoldable pub html_bytes : Html → List ℕ
html_bytes Nothing = []
html_bytes (Markup markup) = markup
html_bytes (Text text) = text_bytes text
html_bytes (Number n) = decimal n
html_bytes (Signed z) = signed_decimal z
html_bytes (Digits bytes) = encode_lower bytes
html_bytes (first ▹ next) = html_bytes first ++ html_bytes next

-- the parts of each of these
abbrev pub each : {X : Type 0} → (X → Html) → List X → Html
each part [] = Nothing
each part (x ∷ xs) = part x ▹ each part xs

-- A page with the first text has the second one now: the same, with one more part at its end.
abbrev pub Appends : {A : Type 0} → String A → String A → Html → Type 0
Appends old new part = string_bytes new ≡ string_bytes old ++ html_bytes part

-- what the template says, where something holds
unfoldable pub markup_if : Bool → List ℕ → Html
markup_if holds markup = if holds then Markup markup else Nothing

-- a text from outside after what the template says, unless the text is empty
unfoldable pub text_after : List ℕ → List ℕ → Html
text_after before text = if length text == 0 then Nothing else Markup before ▹ Text text
