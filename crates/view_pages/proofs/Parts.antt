-- The bytes of parts, one after another.
use Rattle.std.proofs.Common.{◌≡◌, refl, sym, ap, subst, ◌∙◌, ℕ, List, [], ◌++◌, append_assoc}
use Rattle.std.proofs.Common.{Result, OnOk}
use Rattle.view_pages.specs.Html.{Html, Nothing, ◌▹◌, html_bytes}

-- of two, one after the other
pub bytes_of_two : (first next : Html)
    → html_bytes (first ▹ next) ≡ html_bytes first ++ html_bytes next
unfolding html_bytes
bytes_of_two first next = refl

-- of none
pub bytes_of_none : html_bytes Nothing ≡ []
unfolding html_bytes
bytes_of_none = refl

-- a part is written, and then what comes after it
pub after : {T E : Type 0} (r : Result T E) (old mid new : List ℕ) (first next : Html)
    → mid ≡ old ++ html_bytes first
    → OnOk r (new ≡ mid ++ html_bytes next) → OnOk r (new ≡ old ++ html_bytes (first ▹ next))
after r old mid new first next written then =
    subst (λ l. OnOk r (new ≡ l))
    (ap (λ l. l ++ html_bytes next) written ∙ append_assoc old (html_bytes first) (html_bytes next)
    ∙ ap (λ l. old ++ l) (sym (bytes_of_two first next)))
    then

-- what is written of a thing that is another one
pub same : {X : Type 0} (x y : X) (old new : List ℕ) (part : X → Html) → x ≡ y
    → new ≡ old ++ html_bytes (part x) → new ≡ old ++ html_bytes (part y)
same x y old new part is written = written ∙ ap (λ z. old ++ html_bytes (part z)) is

-- What was appended for a value was appended for an equal one.
pub same_ok : {X T E : Type 0} (r : Result T E) (x y : X) (old new : List ℕ) (part : X → Html)
    → x ≡ y
    → OnOk r (new ≡ old ++ html_bytes (part x)) → OnOk r (new ≡ old ++ html_bytes (part y))
same_ok r x y old new part is written =
    subst (λ z. OnOk r (new ≡ old ++ html_bytes (part z))) is written
