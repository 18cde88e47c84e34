-- Resource attributes as a text. (OpenTelemetry Specification, Resource SDK, Specifying resource
-- information via an environment variable; W3C Baggage, Header content, without properties)
use Rattle.std.specs.Prelude.{ℕ, Bool, not, ◌&&◌, ◌==◌, List, map}
use Rattle.std.specs.Prelude.{Option, None, if◌then◌else◌, nat_le, option_map, String}
use Rattle.std.specs.Prelude.{string_bytes}
use Rattle.std.specs.List.{list_all, slice_split}
use Rattle.httparse.specs.Grammar.{is_token, trim_ows}
use Rattle.text_words.specs.Parts.{around_first}
use Rattle.text_words.specs.Words.{◌>>=◌, bytes_of, each_of, utf8_of}

-- a key and its value, in UTF-8
abbrev pub Pair : Type 0
Pair = List ℕ × List ℕ

-- a byte of a value: visible ASCII but `"` (34), `,` (44), `;` (59) and `\` (92) (W3C Baggage,
-- baggage-octet)
unfoldable pub is_value_byte : ℕ → Bool
is_value_byte b =
    nat_le 33 b && nat_le b 126
    && not (b == 34) && not (b == 44) && not (b == 59) && not (b == 92)

-- The text that a key or a value spells: `%` and two hexadecimal digits are a byte, any other byte
-- is itself, and all bytes together are UTF-8. (Resource SDK: percent-decoded; what isn't UTF-8 is
-- an error)
abbrev pub decoded : List ℕ → Option (List ℕ)
decoded word = bytes_of word >>= utf8_of

-- A key and its value, without blanks around them: a token (RFC 9110, section 5.6.2) and such
-- bytes, each of which is decoded.
unfoldable pub pair_of : List ℕ → List ℕ → Option Pair
pair_of key value =
    if is_token key && list_all is_value_byte value
    then decoded key >>= (λ k. option_map (λ v. (k, v)) (decoded value)) else None

-- a member of the list: what is around its first `=` (61), with any spaces and tabs around its key
-- and its value (W3C Baggage, list-member)
unfoldable pub member_of : List ℕ → Option Pair
member_of member = around_first 61 member >>= λ parts. pair_of (trim_ows parts.0) (trim_ows parts.1)

-- the members between commas (44), if each of them is a pair (Resource SDK: on an error, none)
unfoldable pub pairs_of : List ℕ → Option (List Pair)
pairs_of text = each_of member_of (slice_split (λ b. b == 44) text)

abbrev pub pair_view : {A : Type 0} → String A × String A → Pair
pair_view pair = (string_bytes pair.0, string_bytes pair.1)

abbrev pub pairs_view : {A : Type 0} → List (String A × String A) → List Pair
pairs_view pairs = map pair_view pairs
