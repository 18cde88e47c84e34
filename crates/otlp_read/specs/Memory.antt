-- How many bytes of memory the reading of a request takes, read off its bytes: its messages with
-- the sizes of what is kept of them, and the bytes of their texts.
use Rattle.std.specs.Prelude.{ℕ, zero, suc, ◌+◌, ◌-◌, ◌^◌, List, [], ◌∷◌, length, min, nat_eq}
use Rattle.std.specs.Prelude.{sum_by, unwrap_or}
use Rattle.std.specs.Map.{lookup}
use Rattle.model_message.specs.Wire.{Field, Payload, len, row}
use Rattle.otlp_read.specs.declared.memory.Kind.{Kind}
use Rattle.otlp_read.specs.declared.memory.Kind.TheVariants.{Request, ResourceSpans, Resource}
use Rattle.otlp_read.specs.declared.memory.Kind.TheVariants.{ScopeSpans, Scope, Span, Event, Link}
use Rattle.otlp_read.specs.declared.memory.Kind.TheVariants.{Status, Pair, Value, Values, Pairs}
use Rattle.otlp_read.specs.declared.memory.Content.{Content}
use Rattle.otlp_read.specs.declared.memory.Content.TheVariants.{Nothing, Bytes, Message}

-- at most what 64 bits hold
abbrev pub at_most_64_bits : ℕ → ℕ
at_most_64_bits n = min n (2 ^ 64 - 1)

-- What is kept of the fields of a message: of a text or of bytes themselves, and of a message this
-- many bytes besides what is kept of its fields. 48 is for a value, 64 for a pair, and a pair has a
-- value. Numbers have their place in the message. (opentelemetry-proto; the sizes: profile)
abbrev pub contents : Kind → List (ℕ × Content)
contents Request = (1, Message 256 ResourceSpans) ∷ []
contents ResourceSpans = (1, Message 0 Resource) ∷ (2, Message 256 ScopeSpans) ∷ (3, Bytes) ∷ []
contents Resource = (1, Message 112 Pair) ∷ []
contents ScopeSpans = (1, Message 0 Scope) ∷ (2, Message 768 Span) ∷ (3, Bytes) ∷ []
contents Scope = (1, Bytes) ∷ (2, Bytes) ∷ (3, Message 112 Pair) ∷ []
contents Span =
    (1, Bytes) ∷ (2, Bytes) ∷ (3, Bytes) ∷ (4, Bytes) ∷ (5, Bytes) ∷ (9, Message 112 Pair) ∷
    (11, Message 128 Event) ∷ (13, Message 192 Link) ∷ (15, Message 0 Status) ∷ []
contents Event = (2, Bytes) ∷ (3, Message 112 Pair) ∷ []
contents Link = (1, Bytes) ∷ (2, Bytes) ∷ (3, Bytes) ∷ (4, Message 112 Pair) ∷ []
contents Status = (2, Bytes) ∷ []
contents Pair = (1, Bytes) ∷ (2, Message 0 Value) ∷ []
contents Value = (1, Bytes) ∷ (5, Message 48 Values) ∷ (6, Message 48 Pairs) ∷ (7, Bytes) ∷ []
contents Values = (1, Message 48 Value) ∷ []
contents Pairs = (1, Message 112 Pair) ∷ []

-- what is kept of a field of this number
abbrev pub content_of : Kind → ℕ → Content
content_of kind number = unwrap_or (lookup (nat_eq number) (contents kind)) Nothing

-- how many bytes these bytes take as such a content, where a message takes a given number
abbrev pub content_size : (Kind → List ℕ → ℕ) → Content → List ℕ → ℕ
content_size size Nothing bs = 0
content_size size Bytes bs = length bs
content_size size (Message own kind) bs = own + size kind bs

-- The same of a payload. A number takes none. (Protocol Buffers, Encoding: Length-Delimited
-- Records)
abbrev pub payload_size : (Kind → List ℕ → ℕ) → Content → Payload → ℕ
payload_size size content (len bs) = content_size size content bs
payload_size size content _ = 0

-- how many bytes a field of a message of this kind takes
abbrev pub field_size : (Kind → List ℕ → ℕ) → Kind → Field → ℕ
field_size size kind field = payload_size size (content_of kind field.number) field.payload

-- How many bytes the fields of a message take, up to the first fault in its bytes. Messages nest
-- this many levels deep at most, and those that nest deeper take none.
unfoldable pub message_size : ℕ → Kind → List ℕ → ℕ
message_size zero kind bs = 0
message_size (suc depth) kind bs = sum_by (field_size (message_size depth) kind) (row bs).value

-- How many bytes the reading of a request takes. Values nest 64 levels deep, and so messages no
-- more than 200. (profile)
abbrev pub request_size : List ℕ → ℕ
request_size body = message_size 200 Request body
