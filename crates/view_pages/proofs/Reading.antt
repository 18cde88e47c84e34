-- What is read of the rows in the parts of a page.
use Rattle.std.proofs.Common.{◌≡◌, refl, ap, ◌∙◌, ℕ, ◌<◌, ◌^◌, Bool, true, false, not, ◌&&◌, ◌==◌}
use Rattle.std.proofs.Common.{List, [], ◌∷◌, ◌++◌, length, take, append_assoc, arith, codes}
use Rattle.std.specs.Prelude.{decimal}
use Rattle.std.specs.Char.{digit_value}
use Rattle.std.specs.Fmt.{signed_decimal}
use Rattle.std.specs.List.{before_first}
use Rattle.std.specs.Str.Parse.{AllDigits, digits_value}
use Rattle.std.proofs.lemmas.Fmt.{decimal_is_IsNumeral}
use Rattle.std.proofs.lemmas.List.Sums.{take_while-cons}
use Rattle.std.proofs.lemmas.Str.Parse.{digit_from_value}
use Rattle.hex.specs.Hex.{encode_lower}
use lib.Pointwise.{pointwise}
use Rattle.view_pages.specs.Html.{Html, Nothing, Markup, Text, Number, Signed, Digits, ◌▹◌}
use Rattle.view_pages.specs.Html.{html_bytes, text_bytes}
use Rattle.view_pages.specs.Reading.{row_start, begins_row, number_in, place_here, places_in}
use Rattle.view_pages.proofs.Lacks.{lacks, lacks_text, lacks_decimal, lacks_signed, lacks_digits}

-- whether a text agrees with another one as far as both go
abbrev pub agrees : List ℕ → List ℕ → Bool
agrees [] bs = true
agrees (m ∷ ms) [] = true
agrees (m ∷ ms) (b ∷ bs) = elim (m == b) [ true ↦ agrees ms bs | false ↦ false ]

-- whether no row begins in a text, whatever comes after it
abbrev pub is_rowless : List ℕ → Bool
is_rowless [] = true
is_rowless (b ∷ bs) = elim (agrees row_start (b ∷ bs)) [ true ↦ false | false ↦ is_rowless bs ]

abbrev starts : List ℕ → List ℕ → Bool
starts ms bs = pointwise (λ (a b : ℕ). a == b) ms (take (length ms) bs)

starts_not_by : (x : Bool) (ms bs rest : List ℕ)
    → (elim x [ true ↦ agrees ms bs | false ↦ false ]) ≡ false
    → (agrees ms bs ≡ false → starts ms (bs ++ rest) ≡ false)
    → (x && starts ms (bs ++ rest)) ≡ false
starts_not_by true ms bs rest h f = f h
starts_not_by false ms bs rest h f = refl

-- where they don't agree, the one isn't the start of the other
starts_not : (ms bs rest : List ℕ) → agrees ms bs ≡ false → starts ms (bs ++ rest) ≡ false
starts_not [] bs rest h = cc
starts_not (m ∷ ms) [] rest h = cc
starts_not (m ∷ ms) (b ∷ bs) rest h = starts_not_by (m == b) ms bs rest h (starts_not ms bs rest)

rowless_parts : (x y : Bool) → (elim x [ true ↦ false | false ↦ y ]) ≡ true
    → (x ≡ false) × (y ≡ true)
rowless_parts true y h = cc
rowless_parts false y h = (refl, h)

none_here : (bytes : List ℕ) → begins_row bytes ≡ false → place_here bytes ≡ []
none_here bytes h = rw h refl

-- a text in which no row begins says no place
pub skip : (text rest : List ℕ) → is_rowless text ≡ true → places_in (text ++ rest) ≡ places_in rest
unfolding places_in
skip [] rest h = refl
skip (b ∷ text) rest h =
    let p = rowless_parts (agrees row_start (b ∷ text)) (is_rowless text) h in
    ap (λ l. l ++ places_in (text ++ rest))
    (none_here (b ∷ (text ++ rest)) (starts_not row_start (b ∷ text) rest p.0))
    ∙ skip text rest p.1

rowless_by : (x y z : Bool) → not x ≡ true → z ≡ true
    → (elim (elim x as (λ w. Bool) [ true ↦ y | false ↦ false ])
    as (λ w. Bool) [ true ↦ false | false ↦ z ])
    ≡ true
rowless_by true y z h k = cc
rowless_by false y z h k = k

lacks_parts : (a b : Bool) → (a && b) ≡ true → (a ≡ true) × (b ≡ true)
lacks_parts true b h = (refl, h)
lacks_parts false b h = cc

turned : (b : ℕ) → not (b == 60) ≡ true → not (60 == b) ≡ true
turned b h = grind arith

-- no row begins where no tag does
pub rowless_text : (bs : List ℕ) → lacks bs ≡ true → is_rowless bs ≡ true
rowless_text [] h = refl
rowless_text (b ∷ bs) h =
    let p = lacks_parts (not (b == 60)) (lacks bs) h in
    rowless_by (60 == b) (agrees (codes "li data-row='") bs) (is_rowless bs) (turned b p.0)
    (rowless_text bs p.1)

-- A text without `<` has no row, and the reading goes on after it.
pub skip_text : (text rest : List ℕ) → lacks text ≡ true → places_in (text ++ rest) ≡ places_in rest
skip_text text rest h = skip text rest (rowless_text text h)

-- no row begins in these parts
abbrev pub IsRowless : Html → Type 0
IsRowless Nothing = Unit {0}
IsRowless (Markup markup) = is_rowless markup ≡ true
IsRowless (Text text) = Unit {0}
IsRowless (Number n) = Unit {0}
IsRowless (Signed z) = Unit {0}
IsRowless (Digits bytes) = Unit {0}
IsRowless (first ▹ next) = IsRowless first × IsRowless next

-- A part without rows has no row, and the reading goes on after it.
pub skip_parts : (part : Html) (rest : List ℕ) → IsRowless part
    → places_in (html_bytes part ++ rest) ≡ places_in rest
unfolding html_bytes
skip_parts Nothing rest h = refl
skip_parts (Markup markup) rest h = skip markup rest h
skip_parts (Text text) rest h = skip_text (text_bytes text) rest (lacks_text text)
skip_parts (Number n) rest h = skip_text (decimal n) rest (lacks_decimal n)
skip_parts (Signed z) rest h = skip_text (signed_decimal z) rest (lacks_signed z)
skip_parts (Digits bytes) rest h = skip_text (encode_lower bytes) rest (lacks_digits bytes)
skip_parts (first ▹ next) rest h =
    ap places_in (append_assoc (html_bytes first) (html_bytes next) rest)
    ∙ skip_parts first (html_bytes next ++ rest) h.0
    ∙ skip_parts next rest h.1

-- the digits before a quote
no_quote : (c : ℕ) → digit_value c < 10 → not (c == 39) ≡ true
no_quote c h = let range = digit_from_value c h in grind arith

before_quote : (ds rest : List ℕ) → AllDigits 10 ds
    → before_first (λ b. b == 39) (ds ++ 39 ∷ rest) ≡ ds
before_quote [] rest h = refl
before_quote (d ∷ ds) rest h =
    take_while-cons (λ b. not (b == 39)) d (ds ++ 39 ∷ rest)
    ∙ rw (no_quote d h.0) (ap (λ l. d ∷ l) (before_quote ds rest h.1))

reads_number : (n : ℕ) (rest : List ℕ) → n < 2 ^ 64 → number_in (decimal n ++ 39 ∷ rest) ≡ n
reads_number n rest h =
    let ((some, digits), value) = decimal_is_IsNumeral n h in
    ap (digits_value 10) (before_quote (decimal n) rest digits) ∙ value

-- a row says its place
row_here : (after : List ℕ) → place_here (row_start ++ after) ≡ number_in after ∷ []
row_here after = refl

after_start : (after : List ℕ)
    → places_in (row_start ++ after)
    ≡ place_here (row_start ++ after) ++ places_in (codes "li data-row='" ++ after)
unfolding places_in
after_start after = refl

-- The mark of a row is read as its number, and the reading goes on after it.
pub reads_row : (n : ℕ) (rest : List ℕ) → n < 2 ^ 64
    → places_in (row_start ++ (decimal n ++ 39 ∷ rest)) ≡ n ∷ places_in rest
reads_row n rest h =
    after_start (decimal n ++ 39 ∷ rest)
    ∙ ap (λ l. l ++ places_in (codes "li data-row='" ++ (decimal n ++ 39 ∷ rest)))
    (row_here (decimal n ++ 39 ∷ rest) ∙ ap (λ m. m ∷ []) (reads_number n rest h))
    ∙ ap (λ l. n ∷ l)
    (skip (codes "li data-row='") (decimal n ++ 39 ∷ rest) refl
    ∙ skip_text (decimal n) (39 ∷ rest) (lacks_decimal n)
    ∙ skip (39 ∷ []) rest refl)
