-- The text that is printed of the spans of a request: some lines for each span. (profile)
use Rattle.std.specs.Prelude.{ℕ, zero, suc, Bool, true, false, if◌then◌else◌, ◌||◌, ◌==◌, List, []}
use Rattle.std.specs.Prelude.{◌∷◌, ◌++◌, codes, decimal}
use Rattle.std.specs.Char.{is_ascii_alphanumeric}
use Rattle.std.specs.Fmt.{signed_decimal}
use Rattle.std.specs.Int.{w32, w64, to_be_bytes}
use Rattle.std.specs.List.{flat_map, join_by, list_any}
use Rattle.hex.specs.Hex.{encode_lower}
use Rattle.model_message.specs.AnyValue.{AnyValue, AnyValues, KeyValues, none, no_values, value}
use Rattle.model_message.specs.AnyValue.{no_pairs, pair}
use Rattle.model_message.specs.Messages.{Triple}
use Rattle.model_message.specs.Tables
use Rattle.model_message.specs.Tables.{Message, ◌▸◌}

-- words with a space (32) between them, and the end of the line (10)
abbrev pub line : List (List ℕ) → List ℕ
line [] = 10 ∷ []
line (word ∷ []) = word ++ 10 ∷ []
line (word ∷ words) = word ++ 32 ∷ line words

-- ---- words

-- letters, digits and these
abbrev pub is_plain : ℕ → Bool
is_plain byte = is_ascii_alphanumeric byte || list_any (λ c. c == byte) (codes "._-/:")

-- a byte is written as it is, or as `%` (37) and two lower case hexadecimal digits
abbrev pub byte_word : ℕ → List ℕ
byte_word byte = if is_plain byte then byte ∷ [] else 37 ∷ encode_lower (byte ∷ [])

-- a text, of which none is `%` alone
abbrev pub text_word : List ℕ → List ℕ
text_word [] = codes "%"
text_word (byte ∷ bytes) = flat_map byte_word (byte ∷ bytes)

-- bytes in lower case hexadecimal digits, of which none are `%` alone
abbrev pub bytes_word : List ℕ → List ℕ
bytes_word [] = codes "%"
bytes_word (byte ∷ bytes) = encode_lower (byte ∷ bytes)

-- things with a comma (44) between them
abbrev pub listed : List (List ℕ) → List ℕ
listed words = join_by (λ word. word) (44 ∷ []) words

-- what comes before the one with this number, counted from 0
abbrev pub comma_before : ℕ → List ℕ
comma_before zero = []
comma_before (suc n) = 44 ∷ []

-- a value, by the letter of what it is; a double by its 64 bits
unfoldable mutual
  pub value_word : AnyValue → List ℕ
  value_word none = codes "n:"
  value_word (AnyValue.text t) = codes "t:" ++ text_word t
  value_word (AnyValue.bool true) = codes "b:true"
  value_word (AnyValue.bool false) = codes "b:false"
  value_word (AnyValue.int i) = codes "i:" ++ signed_decimal i
  value_word (AnyValue.double d) = codes "d:" ++ encode_lower (to_be_bytes w64 d)
  value_word (AnyValue.array vs) = codes "a(" ++ (listed (value_words vs) ++ codes ")")
  value_word (AnyValue.pairs ps) = codes "m(" ++ (listed (pair_words ps) ++ codes ")")
  value_word (AnyValue.bytes bs) = codes "y:" ++ bytes_word bs

  pub value_words : AnyValues → List (List ℕ)
  value_words no_values = []
  value_words (value v vs) = value_word v ∷ value_words vs

  -- a key, `=` (61) and its value
  pub pair_words : KeyValues → List (List ℕ)
  pair_words no_pairs = []
  pair_words (pair key v ps) = (text_word key ++ 61 ∷ value_word v) ∷ pair_words ps

-- ---- the lines of a span

-- flags by eight lower case hexadecimal digits, after this word; none where they are 0
abbrev pub flags_line : List ℕ → ℕ → List ℕ
flags_line name flags =
    if flags == 0 then [] else line (name ∷ encode_lower (to_be_bytes w32 flags) ∷ [])

-- a pair, after the word of what it belongs to
abbrev pub pair_line : List ℕ → Message Tables.key_value → List ℕ
pair_line name (key ▸ v ▸ rest) = line (name ∷ text_word key ∷ value_word v ∷ [])

abbrev pub pair_lines : List ℕ → List (Message Tables.key_value) → List ℕ
pair_lines name pairs = flat_map (pair_line name) pairs

-- how many attributes were dropped, and the schema of the resource
abbrev pub resource_lines : Message Tables.resource → List ℕ → List ℕ
resource_lines (attributes ▸ dropped ▸ rest) schema =
    line (codes "resource" ∷ decimal dropped ∷ text_word schema ∷ [])
    ++ pair_lines (codes "rattr") attributes

abbrev pub scope_lines : Message Tables.scope → List ℕ → List ℕ
scope_lines (name ▸ version ▸ attributes ▸ dropped ▸ rest) schema =
    line (codes "scope" ∷ text_word name ∷ text_word version ∷ text_word schema
    ∷ decimal dropped ∷ [])
    ++ pair_lines (codes "sattr") attributes

abbrev pub event_lines : Message Tables.event → List ℕ
event_lines (at ▸ name ▸ attributes ▸ dropped ▸ rest) =
    line (codes "event" ∷ decimal at ∷ text_word name ∷ decimal dropped ∷ [])
    ++ pair_lines (codes "eattr") attributes

abbrev pub link_lines : Message Tables.link → List ℕ
link_lines (trace ▸ span ▸ state ▸ attributes ▸ dropped ▸ flags ▸ rest) =
    line (codes "link" ∷ bytes_word trace ∷ bytes_word span ∷ text_word state
    ∷ decimal dropped ∷ [])
    ++ flags_line (codes "lflags") flags ++ pair_lines (codes "lattr") attributes

-- the code, and the message
abbrev pub status_line : Message Tables.status → List ℕ
status_line (message ▸ code ▸ rest) =
    line (codes "status" ∷ signed_decimal code ∷ text_word message ∷ [])

-- what it is
abbrev pub span_line : Message Tables.span → List ℕ
span_line (trace ▸ span ▸ state ▸ parent ▸ name ▸ kind ▸ start ▸ end ▸ rest) =
    line (codes "span" ∷ bytes_word trace ∷ bytes_word span ∷ bytes_word parent ∷ text_word state
    ∷ signed_decimal kind ∷ decimal start ∷ decimal end ∷ text_word name ∷ [])

-- its flags
abbrev pub span_flags : Message Tables.span → List ℕ
span_flags (trace ▸ span ▸ state ▸ parent ▸ name ▸ kind ▸ start ▸ end ▸ attributes
    ▸ dropped_attributes ▸ events ▸ dropped_events ▸ links ▸ dropped_links ▸ status ▸ flags
    ▸ rest) =
    flags_line (codes "flags") flags

-- its attributes, events and links
abbrev pub part_lines : Message Tables.span → List ℕ
part_lines (trace ▸ span ▸ state ▸ parent ▸ name ▸ kind ▸ start ▸ end ▸ attributes
    ▸ dropped_attributes ▸ events ▸ dropped_events ▸ links ▸ rest) =
    pair_lines (codes "attr") attributes
    ++ flat_map event_lines events ++ flat_map link_lines links

-- how many attributes, events and links were dropped, and its status
abbrev pub end_lines : Message Tables.span → List ℕ
end_lines (trace ▸ span ▸ state ▸ parent ▸ name ▸ kind ▸ start ▸ end ▸ attributes
    ▸ dropped_attributes ▸ events ▸ dropped_events ▸ links ▸ dropped_links ▸ status ▸ rest) =
    line (codes "dropped" ∷ decimal dropped_attributes ∷ decimal dropped_events
    ∷ decimal dropped_links ∷ [])
    ++ status_line status

-- the lines of a span, with those of its resource and its scope after those that say what it is
abbrev pub triple_lines : Triple → List ℕ
triple_lines t =
    span_line t.span ++ span_flags t.span ++ resource_lines t.resource t.resource_schema
    ++ scope_lines t.scope t.scope_schema ++ part_lines t.span ++ end_lines t.span

-- the lines of spans, one span after another
abbrev pub spans_text : List Triple → List ℕ
spans_text triples = flat_map triple_lines triples
