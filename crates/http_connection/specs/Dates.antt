-- When a response was made. (RFC 9110, section 6.6.1)
use Rattle.std.specs.Prelude.{◌≡◌, ℕ, ◌/◌, ◌⊎◌, Bool, false, List, [], ◌∷◌, ◌++◌, codes, bytes_eq}
use Rattle.std.specs.List.{list_any}
use Rattle.http1.specs.Fields.{Header}
use Rattle.http_server.specs.Response.{fields_of}
use Rattle.http_server.specs.declared.response.Response.{Response}
use Rattle.httpdate.specs.Date.{date_text, unix_secs}
use Rattle.httpdate.specs.declared.date.HttpDate.{HttpDate}

-- whether one of the fields says it; names of a response are in small letters
abbrev pub has_date : List Header → Bool
has_date fields = list_any (λ f. bytes_eq f.0 (codes "date")) fields

-- the second of a moment in nanoseconds since 1970
abbrev pub second_of : ℕ → ℕ
second_of at = at / 1_000_000_000

-- the fields, and after them one that says this moment
abbrev pub IsDated : ℕ → List Header → List Header → Type 0
IsDated at old new =
    (date : HttpDate) × (unix_secs date ≡ second_of at)
    × (new ≡ old ++ (codes "date", date_text date) ∷ [])

-- The response, with a field that says that it was made at this moment, in nanoseconds since 1970,
-- if it has none; without it where memory was refused.
pub record SaysDate (at : ℕ) (old new : Response) : Type 0 where
  pub status : new.status ≡ old.status
  pub body : new.body ≡ old.body
  pub fields : (fields_of new ≡ fields_of old)
      ⊎ ((has_date (fields_of old) ≡ false) × IsDated at (fields_of old) (fields_of new))
