-- What is left of a text between a front and an end.
use Rattle.std.proofs.Common.{◌≡◌, ◌∙◌, ℕ, List, ◌++◌, ap, sym}
use Rattle.std.proofs.lemmas.List.{append_cancel_left, append_cancel_right}
use Rattle.std.specs.Str.Pattern.{FindsTextPrefix, FindsTextSuffix, StripsPrefix, StripsSuffix}

-- The digits between a front and an end of a path are what is left without these.
pub left_between : (front end path rest left digits : List ℕ)
    → StripsPrefix (FindsTextPrefix front) path rest → StripsSuffix (FindsTextSuffix end) rest left
    → path ≡ front ++ (digits ++ end) → left ≡ digits
left_between front end path rest left digits (n, (n_is, begins, n_cuts), rest_is, n_fits)
    (m, (m_is, ends, m_cuts), left_is, m_fits) is =
    let whole : path ≡ front ++ rest = begins ∙ ap (λ l. front ++ l) (sym rest_is) in
    let same : rest ≡ digits ++ end =
    append_cancel_left front rest (digits ++ end) (sym whole ∙ is) in
    let cut : rest ≡ left ++ end = ends ∙ ap (λ l. l ++ end) (sym left_is) in
    append_cancel_right left digits end (sym cut ∙ same)
