-- The fields of a head, and what they say (RFC 9110, sections 5 and 8.6).
use Rattle.std.specs.Prelude.{ℕ, ◌-◌, ◌^◌, Bool, ◌&&◌, ◌≡◌, ◌≤◌, ⊤, List, [], ◌∷◌, length, map, min}
use Rattle.std.specs.Prelude.{All}
use Rattle.std.specs.Prelude.{nat_lt, bytes_eq, if◌then◌else◌, Option, Some, None, option_map}
use Rattle.std.specs.Prelude.{Result, Ok, Err}
use Rattle.std.specs.List.{list_all}
use Rattle.std.specs.Char.{is_ascii_digit}
use Rattle.std.specs.Str.Parse.{digits_value}
use Rattle.http_header.specs.FieldName.{IsFieldName}
use Rattle.http_header.specs.FieldValue.{FieldValue, IsFieldValue}
use Rattle.http_header.specs.HeaderMap.{Entries, get_all, value_count}
use Rattle.http_header.specs.Token.{lowercase}
use Rattle.http_wire.specs.declared.fault.HttpFault.{HttpFault}
use Rattle.http_wire.specs.declared.fault.HttpFault.TheVariants as faults

-- a field's name, and its value without spaces and tabs at both ends
abbrev pub NameAndValue : Type 0
NameAndValue = List ℕ × List ℕ

-- the values of the fields of that name, which is in lower case, in their order
abbrev pub values_of : List ℕ → List NameAndValue → List (List ℕ)
values_of name [] = []
values_of name (field ∷ fields) =
    if bytes_eq (lowercase field.0) name then field.1 ∷ values_of name fields
    else values_of name fields

-- `http_header` takes the field
abbrev pub IsTaken : NameAndValue → Type 0
IsTaken field = IsFieldName field.0 × IsFieldValue field.1

-- decimal digits, one or more
abbrev pub is_digits : List ℕ → Bool
is_digits text = nat_lt 0 (length text) && list_all is_ascii_digit text

-- decimal digits, one or more, whose number fits 64 bits
abbrev pub is_length : List ℕ → Bool
is_length text = is_digits text && nat_lt (digits_value 10 text) (2 ^ 64)

-- the length that the values of Content-Length give: each is the same text, and that is a length
-- (a list of lengths in one value is none: profile)
abbrev pub content_length : List (List ℕ) → Result (Option ℕ) HttpFault
content_length [] = Ok None
content_length (value ∷ values) =
    if list_all (bytes_eq value) values && is_length value then Ok (Some (digits_value 10 value))
    else Err faults.BadLength

-- the map has the values of the fields, under each name, and no others
pub record KeepsFields (kept : Entries FieldValue) (fields : List NameAndValue) : Type 0 where
  pub values : (name : List ℕ) → map (λ v. v.bytes) (get_all kept name) ≡ values_of name fields
  pub names : length kept ≤ length fields
  pub count : value_count kept ≤ length fields

-- the fields aren't kept for this cause: one is refused by `http_header`, or memory was refused
abbrev pub RefusesFields : List NameAndValue → HttpFault → Type 0
RefusesFields fields faults.BadHead = ¬ (All IsTaken fields)
RefusesFields fields faults.OutOfMemory = ⊤
RefusesFields fields faults.Ended = ⊥
RefusesFields fields faults.Device = ⊥
RefusesFields fields faults.BadLength = ⊥
RefusesFields fields faults.BadChunk = ⊥
RefusesFields fields faults.TooLarge = ⊥
