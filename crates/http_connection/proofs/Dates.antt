-- Responses that say when they were made.
use Rattle.std.proofs.Common.{◌≡◌, refl, ap, ◌∙◌, ℕ, List, [], ◌∷◌, ◌++◌, codes}
use Rattle.http1.specs.Fields.{Header}
use Rattle.http_header.specs.FieldValue.{FieldValue, plain_value}
use Rattle.httpdate.specs.Date.{date_text, unix_secs}
use Rattle.httpdate.specs.declared.date.HttpDate.{HttpDate}
use Rattle.http_connection.specs.Dates.{IsDated, second_of}

-- A field with this name and the text of a date says the date's moment.
pub is-dated : (at : ℕ) (old new : List Header) (date : HttpDate) (name text : List ℕ)
    (value : FieldValue)
    → unix_secs date ≡ second_of at → name ≡ codes "date" → text ≡ date_text date
    → value ≡ plain_value text → new ≡ old ++ (name, value.bytes) ∷ []
    → IsDated at old new
is-dated at old new date name text value is name_is text_is value_is added =
    let bytes : value.bytes ≡ date_text date =
    ap (λ (v : FieldValue). v.bytes) value_is ∙ text_is in
    (date, is, added ∙ rw (name_is, bytes) refl)
