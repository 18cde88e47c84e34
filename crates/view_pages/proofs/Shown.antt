-- What is written of values, case by case.
use Rattle.std.proofs.Common.{◌≡◌, refl, sym, ap, subst, ◌∙◌, ℕ, ℤ, ◌<◌, length, length-append}
use Rattle.std.proofs.Common.{append_assoc, arith, Result, OnOk, true, false, List, [], ◌∷◌, ◌++◌}
use Rattle.std.proofs.Common.{codes, String, Vec}
use Rattle.std.specs.String.{string_bytes}
use Rattle.model_message.specs.AnyValue.{as_values, as_pairs}
use Rattle.otlp_read.specs.declared.any_value.AnyValue.{AnyValue, Empty, Text, Bool as Truth, Int}
use Rattle.otlp_read.specs.declared.any_value.AnyValue.{Double, Array, Pairs, Bytes}
use Rattle.otlp_read.specs.Values.{values_view, pairs_view}
use Rattle.otlp_read.proofs.ValueViews.{view-Empty, view-Text, view-Bool, view-Int, view-Double}
use Rattle.otlp_read.proofs.ValueViews.{view-Array, view-Pairs, view-Bytes}
use Rattle.view_pages.specs.Html.{Html, Markup, Text as TextPart, Signed, ◌▹◌, each, html_bytes}
use Rattle.view_pages.specs.Values.{value_html, values_html, pairs_html, any_html, item_html}
use Rattle.view_pages.specs.Values.{pair_html, double_html, bytes_html}

items_of : {A : Type 0} (vs : List (AnyValue A))
    → values_html (as_values (values_view vs)) ≡ each item_html vs
unfolding value_html
items_of [] = refl
items_of (v ∷ vs) = ap (λ h. item_html v ▹ h) (items_of vs)

pairs_of : {A : Type 0} (ps : List (String A × AnyValue A))
    → pairs_html (as_pairs (pairs_view ps)) ≡ each pair_html ps
unfolding value_html
pairs_of [] = refl
pairs_of (p ∷ ps) = ap (λ h. pair_html p ▹ h) (pairs_of ps)

-- A value of no kind is shown by words that say so.
pub html-Empty : (A : Type 0) → any_html {A = A} Empty ≡ Markup (codes "<i>no value</i>")
unfolding value_html
html-Empty A = ap value_html (view-Empty A)

-- A text is shown as text.
pub html-Text : {A : Type 0} (t : String A) → any_html (Text t) ≡ TextPart (string_bytes t)
unfolding value_html
html-Text t = ap value_html (view-Text t)

-- True is shown by its name.
pub html-true : (A : Type 0) → any_html {A = A} (Truth true) ≡ Markup (codes "true")
unfolding value_html
html-true A = ap value_html (view-Bool A true)

-- False is shown by its name.
pub html-false : (A : Type 0) → any_html {A = A} (Truth false) ≡ Markup (codes "false")
unfolding value_html
html-false A = ap value_html (view-Bool A false)

-- An integer is shown as a signed number.
pub html-Int : (A : Type 0) (i : ℤ) → any_html {A = A} (Int i) ≡ Signed i
unfolding value_html
html-Int A i = ap value_html (view-Int A i)

-- A double is shown as its number.
pub html-Double : (A : Type 0) (d : ℕ) → any_html {A = A} (Double d) ≡ double_html d
unfolding value_html
html-Double A d = ap value_html (view-Double A d)

-- Bytes are shown as bytes.
pub html-Bytes : {A : Type 0} (v : Vec ℕ A) → any_html (Bytes v) ≡ bytes_html v.items
unfolding value_html
html-Bytes v = ap value_html (view-Bytes v)

-- what is written of an array, and of a list of pairs
abbrev pub array_html : {A : Type 0} → List (AnyValue A) → Html
array_html vs = Markup (codes "<ul>") ▹ each item_html vs ▹ Markup (codes "</ul>")

abbrev pub list_html : {A : Type 0} → List (String A × AnyValue A) → Html
list_html ps = Markup (codes "<dl>") ▹ each pair_html ps ▹ Markup (codes "</dl>")

-- An array is shown as its values.
pub html-Array : {A : Type 0} (v : Vec (AnyValue A) A) → any_html (Array v) ≡ array_html v.items
unfolding value_html
html-Array v =
    ap value_html (view-Array v)
    ∙ ap (λ h. Markup (codes "<ul>") ▹ h ▹ Markup (codes "</ul>")) (items_of v.items)

-- A list of pairs is shown as its pairs.
pub html-Pairs : {A : Type 0} (v : Vec (String A × AnyValue A) A)
    → any_html (Pairs v) ≡ list_html v.items
unfolding value_html
html-Pairs v =
    ap value_html (view-Pairs v)
    ∙ ap (λ h. Markup (codes "<dl>") ▹ h ▹ Markup (codes "</dl>")) (pairs_of v.items)

-- what is written of a value that is one of these
pub told : {A : Type 0} (v which : AnyValue A) (old new : List ℕ) (h : Html) → v ≡ which
    → any_html which ≡ h
    → new ≡ old ++ html_bytes h → new ≡ old ++ html_bytes (any_html v)
told v which old new h is says more =
    more ∙ ap (λ x. old ++ html_bytes x) (sym (ap any_html is ∙ says))

-- What was appended for a known kind of value was appended for the value.
pub told_call : {A T E : Type 0} (r : Result T E) (v which : AnyValue A) (old new : List ℕ)
    (h : Html)
    → v ≡ which → any_html which ≡ h
    → OnOk r (new ≡ old ++ html_bytes h) → OnOk r (new ≡ old ++ html_bytes (any_html v))
told_call r v which old new h is says more =
    subst (λ x. OnOk r (new ≡ old ++ html_bytes x)) (sym (ap any_html is ∙ says)) more

-- an array has more bytes than what is listed in it, and that more than each part
pub array_longer : {A : Type 0} (v : AnyValue A) (values : Vec (AnyValue A) A)
    (items : List (AnyValue A))
    → v ≡ Array values → items ≡ values.items
    → length (html_bytes (each item_html items)) < length (html_bytes (any_html v))
unfolding html_bytes
array_longer v values items is same =
    let all : length (html_bytes (any_html v)) ≡ length (html_bytes (array_html values.items)) =
    ap (λ x. length (html_bytes (any_html x))) is
    ∙ ap (λ x. length (html_bytes x)) (html-Array values) in
    omega (
      arith,
      all,
      length-append (html_bytes (each item_html values.items)) (codes "</ul>"),
      ap (λ l. length (html_bytes (each item_html l))) same,
    )

-- The pairs of a list take fewer bytes than the whole list.
pub pairs_longer : {A : Type 0} (v : AnyValue A) (pairs : Vec (String A × AnyValue A) A)
    (items : List (String A × AnyValue A))
    → v ≡ Pairs pairs → items ≡ pairs.items
    → length (html_bytes (each pair_html items)) < length (html_bytes (any_html v))
unfolding html_bytes
pairs_longer v pairs items is same =
    let all : length (html_bytes (any_html v)) ≡ length (html_bytes (list_html pairs.items)) =
    ap (λ x. length (html_bytes (any_html x))) is
    ∙ ap (λ x. length (html_bytes x)) (html-Pairs pairs) in
    omega (
      arith,
      all,
      length-append (html_bytes (each pair_html pairs.items)) (codes "</dl>"),
      ap (λ l. length (html_bytes (each pair_html l))) same,
    )

-- A value takes fewer bytes than the item around it.
pub item_longer : {A : Type 0} (v : AnyValue A)
    → length (html_bytes (any_html v)) < length (html_bytes (item_html v))
unfolding html_bytes
item_longer v = omega (arith, length-append (codes "<li>") (html_bytes (any_html v)))

-- The value of a pair takes fewer bytes than the pair.
pub value_shorter : {A : Type 0} (p : String A × AnyValue A)
    → length (html_bytes (any_html p.1)) < length (html_bytes (pair_html p))
unfolding html_bytes
value_shorter p =
    omega (
      arith,
      length-append (html_bytes (TextPart (string_bytes p.0)))
          (codes "<dd>" ++ html_bytes (any_html p.1)),
    )

-- a key, and then its value
pub pair_after : {A : Type 0} (p : String A × AnyValue A) (key old mid new : List ℕ)
    → key ≡ string_bytes p.0
    → mid ≡ old ++ html_bytes (Markup (codes "<dt>") ▹ TextPart key ▹ Markup (codes "<dd>"))
    → new ≡ mid ++ html_bytes (any_html p.1) → new ≡ old ++ html_bytes (pair_html p)
unfolding html_bytes
pair_after p key old mid new is to-mid to-new =
    to-new ∙ ap (λ l. l ++ html_bytes (any_html p.1)) to-mid
    ∙ append_assoc old (codes "<dt>" ++ (html_bytes (TextPart key) ++ codes "<dd>"))
    (html_bytes (any_html p.1))
    ∙ ap (λ l. old ++ (codes "<dt>" ++ l))
    (append_assoc (html_bytes (TextPart key)) (codes "<dd>") (html_bytes (any_html p.1))
    ∙ ap (λ k. html_bytes (TextPart k) ++ (codes "<dd>" ++ html_bytes (any_html p.1))) is)
