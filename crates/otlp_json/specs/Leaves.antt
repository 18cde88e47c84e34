-- What a token means in the place of a field that holds no message. (opentelemetry-proto, "JSON
-- Protobuf Encoding"; Protocol Buffers, "ProtoJSON Format")
use Rattle.std.specs.Prelude.{ℕ, ◌-◌, ◌^◌, List, Bool, ◌||◌, ◌==◌, if◌then◌else◌, Result}
use Rattle.std.specs.Prelude.{Ok, Err}
use Rattle.std.specs.List.{list_any}
use Rattle.std.specs.Option.{ok_or}
use Rattle.std.specs.Result.{result_ok}
use Rattle.hex.specs.Hex as hex
use Rattle.base64.specs.GeneralPurpose.{decode_of}
use Rattle.base64.specs.Engines.{standard_pad_indifferent, url_safe_pad_indifferent}
use Rattle.model_message.specs.Wire.{Payload, varint, i64, len, i32}
use Rattle.json.specs.Token.{Token, begin_object, end_object, begin_array, end_array, key, string}
use Rattle.json.specs.Token.{number, boolean, null, bad}
use Rattle.otlp_json.specs.Numbers.{whole, double, quoted_double}
use Rattle.otlp_json.specs.declared.fault.JsonFault.{JsonFault}
use Rattle.otlp_json.specs.declared.fault.JsonFault.TheVariants as faults
use Rattle.otlp_json.specs.declared.names.Leaf.{Leaf}
use Rattle.otlp_json.specs.declared.names.Leaf.TheVariants as leaves

-- reads on with what was read, or stops at the fault
infixl 10 ◌>>=◌
abbrev pub ◌>>=◌ : {A B : Type 0} → Result A JsonFault → (A → Result B JsonFault)
    → Result B JsonFault
(Ok x) >>= next = next x
(Err fault) >>= next = Err fault

-- the fault of a token in the place of another: where no value may begin the text is no JSON
abbrev pub mismatch : Token → JsonFault
mismatch begin_object = faults.WrongType
mismatch end_object = faults.Malformed
mismatch begin_array = faults.WrongType
mismatch end_array = faults.Malformed
mismatch (key s) = faults.Malformed
mismatch (string s) = faults.WrongType
mismatch (number s) = faults.WrongType
mismatch (boolean b) = faults.WrongType
mismatch null = faults.WrongType
mismatch bad = faults.Malformed

-- the text that a token is
abbrev pub text_in : Token → Result (List ℕ) JsonFault
text_in (string s) = Ok s
text_in t = Err (mismatch t)

-- the truth value that a token is
abbrev pub truth_in : Token → Result Bool JsonFault
truth_in (boolean b) = Ok b
truth_in t = Err (mismatch t)

-- the text of a number
abbrev pub number_in : Token → Result (List ℕ) JsonFault
number_in (number s) = Ok s
number_in t = Err (mismatch t)

-- the text of a number, which may be in quotes
abbrev pub numeral_in : Token → Result (List ℕ) JsonFault
numeral_in (number s) = Ok s
numeral_in (string s) = Ok s
numeral_in t = Err (mismatch t)

-- the bytes that are in hexadecimal, in either case (opentelemetry-proto, "JSON Protobuf Encoding")
unfoldable pub identifier : List ℕ → Result (List ℕ) JsonFault
identifier text = ok_or (result_ok (hex.decode_of text)) faults.BadIdentifier

-- whether it is one of the two signs that the URL-safe alphabet has alone: `-` (45) and `_` (95)
-- (RFC 4648, section 5)
abbrev pub is_url_safe : ℕ → Bool
is_url_safe b = (b == 45) || (b == 95)

-- the bytes that are in Base64 of the standard alphabet, with or without padding (RFC 4648,
-- section 4)
unfoldable pub standard_bytes : List ℕ → Result (List ℕ) JsonFault
standard_bytes text = ok_or (result_ok (decode_of standard_pad_indifferent text)) faults.BadBase64

-- the same of the URL-safe alphabet (RFC 4648, section 5)
unfoldable pub url_safe_bytes : List ℕ → Result (List ℕ) JsonFault
url_safe_bytes text = ok_or (result_ok (decode_of url_safe_pad_indifferent text)) faults.BadBase64

-- The bytes that are in Base64 of either alphabet. (Protocol Buffers, "ProtoJSON Format")
unfoldable pub base64_bytes : List ℕ → Result (List ℕ) JsonFault
unfolding standard_bytes url_safe_bytes
base64_bytes text =
    if list_any is_url_safe text then url_safe_bytes text else standard_bytes text

-- the bits of the double that a token is
unfoldable pub double_in : Token → Result ℕ JsonFault
unfolding double quoted_double
double_in (number s) = double s
double_in (string s) = quoted_double s
double_in t = Err (mismatch t)

-- the numbers of a type, by the largest and by how far the least is below 0
abbrev pub whole_in : (Token → Result (List ℕ) JsonFault) → ℕ → ℕ → Token → Result ℕ JsonFault
whole_in read most least t = read t >>= λ text. whole text most least

-- The payload that a token means. An enumeration is a number and no name. (opentelemetry-proto,
-- "JSON Protobuf Encoding")
unfoldable pub payload : Leaf → Token → Result Payload JsonFault
unfolding identifier base64_bytes double_in
payload leaves.Text t = text_in t >>= λ text. Ok (len text)
payload leaves.Id t = text_in t >>= λ text. identifier text >>= λ bytes. Ok (len bytes)
payload leaves.Bytes t = text_in t >>= λ text. base64_bytes text >>= λ bytes. Ok (len bytes)
payload leaves.Bool t = truth_in t >>= λ b. Ok (varint (if b then 1 else 0))
payload leaves.Uint32 t = whole_in numeral_in (2 ^ 32 - 1) 0 t >>= λ n. Ok (varint n)
payload leaves.Fixed32 t = whole_in numeral_in (2 ^ 32 - 1) 0 t >>= λ n. Ok (i32 n)
payload leaves.Enum t = whole_in number_in (2 ^ 31 - 1) (2 ^ 31) t >>= λ n. Ok (varint n)
payload leaves.Int64 t = whole_in numeral_in (2 ^ 63 - 1) (2 ^ 63) t >>= λ n. Ok (varint n)
payload leaves.Fixed64 t = whole_in numeral_in (2 ^ 64 - 1) 0 t >>= λ n. Ok (i64 n)
payload leaves.Double t = double_in t >>= λ n. Ok (i64 n)
