-- Fields that a program sends with each request, beside those of the kit. (RFC 9110, sections 5.1,
-- 5.3, 5.5 and 5.6.2; RFC 9112, section 5)
use Rattle.std.specs.Prelude.{ℕ, ◌+◌, ◌-◌, ◌≤◌, Bool, not, ◌&&◌, ◌||◌, ◌==◌, nat_le, nat_lt}
use Rattle.std.specs.Prelude.{List, [], ◌∷◌, ◌++◌, length, slice_index, flat_map, bytes_eq, codes}
use Rattle.std.specs.Prelude.{IsTrue, Option, Some, None, if◌then◌else◌}
use Rattle.std.specs.List.{list_all, list_any}
use Rattle.http_header.specs.Token.{lowercase}
use Rattle.httparse.specs.Grammar.{is_token}
use Rattle.http_wire.specs.Lines.{line}
use Rattle.otlp_http.specs.declared.headers.HeaderFault.{HeaderFault}
use Rattle.otlp_http.specs.declared.headers.HeaderFault.TheVariants as faults

-- a name, and a value
abbrev pub Field : Type 0
Field = List ℕ × List ℕ

-- the line of a field
abbrev pub field_line : Field → List ℕ
field_line f = line (f.0 ++ codes ": " ++ f.1)

-- the lines of fields, one after the other
abbrev pub field_lines : List Field → List ℕ
field_lines fields = flat_map field_line fields

-- two names are the same in letters of either case (RFC 9110, section 5.1)
abbrev pub is_same_name : List ℕ → List ℕ → Bool
is_same_name name other = bytes_eq (lowercase name) (lowercase other)

-- The names of the fields that each request has, of those that say how a message is sent (RFC 9110,
-- section 7.6.1; RFC 9112, section 6.1), and of those that say what the body is or ask for another
-- reply (RFC 9110, sections 8.4 and 10.1.1). (which names: profile)
abbrev pub reserved_names : List (List ℕ)
reserved_names =
    codes "host" ∷ codes "content-type" ∷ codes "content-length" ∷ codes "connection"
    ∷ codes "transfer-encoding" ∷ codes "content-encoding" ∷ codes "expect" ∷ codes "upgrade"
    ∷ codes "te" ∷ codes "trailer" ∷ codes "keep-alive" ∷ codes "proxy-connection" ∷ []

-- no field of a program has this name
abbrev pub is_reserved : List ℕ → Bool
is_reserved name = list_any (is_same_name name) reserved_names

-- a field has this name already
abbrev pub has_name : List ℕ → List Field → Bool
has_name name fields = list_any (λ f. is_same_name f.0 name) fields

-- a visible ASCII byte, from `!` to `~`
abbrev pub is_visible : ℕ → Bool
is_visible byte = nat_le 33 byte && nat_le byte 126

-- a visible ASCII byte, a space or a tab
abbrev pub is_value_byte : ℕ → Bool
is_value_byte byte = is_visible byte || (byte == 32 || byte == 9)

-- Nothing, or visible ASCII bytes, with spaces and tabs between them. (RFC 9110, section 5.5; no
-- other bytes: profile)
abbrev pub is_value : List ℕ → Bool
is_value value =
    not (nat_lt 0 (length value))
    || is_visible (slice_index value 0) && is_visible (slice_index value (length value - 1))
    && list_all is_value_byte value

-- a token that a program may use, and such a value
abbrev pub is_field : Field → Bool
is_field f = is_token f.0 && not (is_reserved f.0) && is_value f.1

-- the most bytes that the lines of all fields have together (profile)
abbrev pub most_bytes : ℕ
most_bytes = 8192

-- such fields, whose lines are no longer
pub record AreFields (fields : List Field) : Type 0 where
  pub valid : IsTrue (list_all is_field fields)
  pub short : length (field_lines fields) ≤ most_bytes

-- the lines of these fields and of this one are longer
abbrev pub is_too_long : List Field → Field → Bool
is_too_long fields f =
    nat_lt most_bytes (length (field_lines fields) + length (field_line f))

-- why a field isn't taken after those that are there: the first of these that holds
unfoldable pub refusal : List Field → Field → Option HeaderFault
refusal fields f =
    if not (is_token f.0) then Some faults.BadName
    else if is_reserved f.0 then Some faults.ReservedName
    else if has_name f.0 fields then Some faults.Repeated
    else if not (is_value f.1) then Some faults.BadValue
    else if is_too_long fields f then Some faults.TooLong else None

-- what a fault says of the field: nothing, where memory was refused
abbrev pub refusal_by : HeaderFault → Option HeaderFault
refusal_by faults.OutOfMemory = None
refusal_by fault = Some fault
