-- The field `tracestate`. (W3C Trace Context, Tracestate Header)
use Rattle.std.specs.Prelude.{ℕ, ◌==◌, ◌&&◌, not, nat_le, Bool, true, false, if◌then◌else◌}
use Rattle.std.specs.Prelude.{List, [], ◌∷◌, ◌++◌, length, flat_map, bytes_eq}
use Rattle.std.specs.Prelude.{Some, None}
use Rattle.std.specs.List.{list_any, slice_split}
use Rattle.std.specs.Str.{is_utf8}
use Rattle.httparse.specs.Grammar.{trim_ows}
use Rattle.text_words.specs.Parts.{around_first}
use Rattle.trace_context.specs.Keys.{is_key, is_value}

-- a member without the spaces and tabs around it, unless nothing is left
abbrev pub entry_in : List ℕ → List (List ℕ)
entry_in member = if length (trim_ows member) == 0 then [] else trim_ows member ∷ []

-- the members of one value of the field, between commas (44)
unfoldable pub entries_in : List ℕ → List (List ℕ)
entries_in value = flat_map entry_in (slice_split (λ b. b == 44) value)

-- The members of all values of the field, in order. An empty member doesn't count. (W3C Trace
-- Context, list; RFC 9110, section 5.6.1)
abbrev pub entries_of : List (List ℕ) → List (List ℕ)
entries_of values = flat_map entries_in values

-- what is before its first `=` (61), or all of it
unfoldable pub key_of : List ℕ → List ℕ
key_of entry = elim (around_first 61 entry) [ None ↦ entry | Some parts ↦ parts.0 ]

-- a key, `=` and a value (W3C Trace Context, list-member)
unfoldable pub is_entry : List ℕ → Bool
is_entry entry = elim (around_first 61 entry) [
  | None ↦ false
  | Some parts ↦ is_key parts.0 && is_value parts.1
]

-- whether one of them has this key
abbrev pub has_key : List ℕ → List (List ℕ) → Bool
has_key key entries = list_any (λ entry. bytes_eq (key_of entry) key) entries

-- Each is a key and a value, and no key comes twice. (W3C Trace Context, list: only one entry per
-- key is allowed)
abbrev pub are_entries : List (List ℕ) → Bool
are_entries [] = true
are_entries (entry ∷ entries) =
    is_entry entry && not (has_key (key_of entry) entries) && are_entries entries

-- the entries, with a comma between each two
abbrev pub joined : List (List ℕ) → List ℕ
joined [] = []
joined (entry ∷ entries) = entry ++ flat_map (λ e. 44 ∷ e) entries

-- the bytes, if they are text
abbrev pub text_or_nothing : List ℕ → List ℕ
text_or_nothing bytes = if is_utf8 bytes then bytes else []

-- The trace state of these values of the field: their entries, or nothing where one of them is
-- malformed, a key comes twice, or there are more than 32. (W3C Trace Context, Tracestate Header
-- Field Values)
unfoldable pub tracestate : List (List ℕ) → List ℕ
tracestate values =
    if nat_le (length (entries_of values)) 32 && are_entries (entries_of values)
    then text_or_nothing (joined (entries_of values)) else []
