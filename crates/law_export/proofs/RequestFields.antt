-- The fields of the request's head, and what they say.
use Rattle.std.proofs.Common.{◌≡◌, ℕ, List, [], ◌∷◌, bytes_eq, IsTrue, true, false, inl, inr, refl}
use Rattle.std.proofs.Common.{ap, subst, ◌∙◌, arith, codes}
use Rattle.std.specs.Prelude.{All, Some, Ok, Err, map, if◌then◌else◌}
use Rattle.std.specs.Str.Parse.{digits_value}
use Rattle.std.proofs.lemmas.Bool.{cases_Bool}
use Rattle.std.proofs.lemmas.List.Elements.{All-cons}
use Rattle.std.proofs.lemmas.Slice.Eq.{bytes_eq-Decides}
use Rattle.httparse.specs.Spans.{name_and_value}
use Rattle.httparse.proofs.TrimLemmas.{AllPass-trim_ows}
use Rattle.http_header.specs.FieldName.{is_field_name}
use Rattle.http_header.specs.FieldValue.{FieldValue, plain_value}
use Rattle.http_header.specs.HeaderMap.{Entries, get_all}
use Rattle.http_header.specs.Token.{lowercase, is_value_byte}
use Rattle.http_header.proofs.TokenLemmas.{IsFieldName-from_test}
use Rattle.http_wire.specs.declared.fault.HttpFault.TheVariants as faults
use Rattle.http_wire.specs.Bodies.{empty, sized, framing_by_length, request_framing}
use Rattle.http_wire.specs.Fields.{NameAndValue, IsTaken, KeepsFields, values_of, is_length}
use Rattle.otlp_serve.specs.RequestHeads.{request_fields}
use Rattle.law_export.proofs.Bytes.{all_four, AreVisible, value_bytes, trimmed}
use Rattle.law_export.proofs.Heads.{field, host_field, media_field, size_field, close_field, head}
use Rattle.law_export.proofs.Heads.{media, media_is, close_is}

-- the fields after Content-Type, those after Host, and all
abbrev last_pairs : List ℕ → List NameAndValue
last_pairs size = (codes "Content-Length", size) ∷ (codes "Connection", codes "close") ∷ []

abbrev later_pairs : List ℕ → List NameAndValue
later_pairs size = (codes "Content-Type", media) ∷ last_pairs size

abbrev pub pairs : List ℕ → List ℕ → List NameAndValue
pairs host size = (codes "Host", host) ∷ later_pairs size

-- The fields of the request's head are its four names and values.
pub fields_are : (host size : List ℕ) → AreVisible host → AreVisible size
    → request_fields (head host size) ≡ pairs host size
fields_are host size host_are size_are =
    rw (
      trimmed host host_are,
      trimmed media media_is,
      trimmed size size_are,
      trimmed (codes "close") close_is,
    ) refl

-- ---- the fields can be kept

field_taken : (name value : List ℕ) → is_field_name name ≡ true → AreVisible value
    → IsTaken (name_and_value (field name value))
field_taken name value test are = (
  IsFieldName-from_test name test,
  AllPass-trim_ows is_value_byte _
      (All-cons (λ b. IsTrue (is_value_byte b)) 32 value refl (value_bytes value are)),
)

-- All fields of the request's head can be kept.
pub all_taken : (host size : List ℕ) → AreVisible host → AreVisible size
    → All IsTaken (request_fields (head host size))
all_taken host size host_are size_are =
    all_four IsTaken (name_and_value (host_field host)) (name_and_value media_field)
    (name_and_value (size_field size)) (name_and_value close_field)
    (field_taken (codes "Host") host refl host_are)
    (field_taken (codes "Content-Type") media refl media_is)
    (field_taken (codes "Content-Length") size refl size_are)
    (field_taken (codes "Connection") (codes "close") refl close_is)

-- ---- the fields are kept

abbrev one : List ℕ → List ℕ → List ℕ × List FieldValue
one name value = (name, plain_value value ∷ [])

-- the same fields as a map keeps them
abbrev closing : Entries FieldValue
closing = one (codes "connection") (codes "close") ∷ []

abbrev last_kept : List ℕ → Entries FieldValue
last_kept size = one (codes "content-length") size ∷ closing

abbrev later_kept : List ℕ → Entries FieldValue
later_kept size = one (codes "content-type") media ∷ last_kept size

abbrev pub kept : List ℕ → List ℕ → Entries FieldValue
kept host size = one (codes "host") host ∷ later_kept size

-- the values are the same under the name
abbrev Agree : Entries FieldValue → List NameAndValue → List ℕ → Type 0
Agree entries fields name = map (λ v. v.bytes) (get_all entries name) ≡ values_of name fields

-- One more field of another name changes no value under the name.
skip : (name value other : List ℕ) (entries : Entries FieldValue) (fields : List NameAndValue)
    → bytes_eq (lowercase name) other ≡ false
    → Agree entries fields other
    → Agree (one (lowercase name) value ∷ entries) ((name, value) ∷ fields) other
skip name value other entries fields differ agree = rw differ agree

-- The values are the same under a name if they are so under an equal name that is written out.
at : (name other : List ℕ) (entries : Entries FieldValue) (fields : List NameAndValue)
    → bytes_eq name other ≡ true → Agree entries fields name → Agree entries fields other
at name other entries fields same agree =
    subst (Agree entries fields) ((bytes_eq-Decides name other).0 same) agree

agree_closing : (name : List ℕ) → Agree closing ((codes "Connection", codes "close") ∷ []) name
agree_closing name = elim (cases_Bool (bytes_eq (codes "connection") name)) [
  | inl t ↦ at (codes "connection") name closing ((codes "Connection", codes "close") ∷ []) t refl
  | inr f ↦ skip (codes "Connection") (codes "close") name [] [] f refl
]

agree_last : (size name : List ℕ) → Agree (last_kept size) (last_pairs size) name
agree_last size name = elim (cases_Bool (bytes_eq (codes "content-length") name)) [
  | inl t ↦ at (codes "content-length") name (last_kept size) (last_pairs size) t refl
  | inr f ↦
      skip (codes "Content-Length") size name closing ((codes "Connection", codes "close") ∷ []) f
      (agree_closing name)
]

agree_later : (size name : List ℕ) → Agree (later_kept size) (later_pairs size) name
agree_later size name = elim (cases_Bool (bytes_eq (codes "content-type") name)) [
  | inl t ↦ at (codes "content-type") name (later_kept size) (later_pairs size) t refl
  | inr f ↦
      skip (codes "Content-Type") media name (last_kept size) (last_pairs size) f
      (agree_last size name)
]

agree : (host size name : List ℕ) → Agree (kept host size) (pairs host size) name
agree host size name = elim (cases_Bool (bytes_eq (codes "host") name)) [
  | inl t ↦ at (codes "host") name (kept host size) (pairs host size) t refl
  | inr f ↦
      skip (codes "Host") host name (later_kept size) (later_pairs size) f (agree_later size name)
]

-- The map of fields keeps the values of the request's fields under each name.
pub keeps : (host size : List ℕ) → KeepsFields (kept host size) (pairs host size)
keeps host size = record { values = agree host size; names = omega arith; count = omega arith }

-- ---- how far the body goes

-- The body of the request is as long as its Content-Length says.
pub framing_is : (host size : List ℕ) (count : ℕ) → is_length size ≡ true
    → digits_value 10 size ≡ count → request_framing (pairs host size) ≡ sized count
framing_is host size count is same =
    ap (λ t.
    framing_by_length empty (if t then Ok (Some (digits_value 10 size)) else Err faults.BadLength))
    is
    ∙ ap sized same
