-- What the body of a request means as bytes. (RFC 9110, section 8.4; RFC 1952; opentelemetry-proto,
-- "JSON Protobuf Encoding")
use Rattle.std.specs.Prelude.{◌≡◌, ◌⊎◌, ℕ, Bool, true, false, List, codes, Option, Some, Result, Ok}
use Rattle.std.specs.Prelude.{Err, None, Vec}
use Rattle.http_header.specs.HeaderMap.{get_all}
use Rattle.model_deflate.specs.Bits.{Fault, too_long}
use Rattle.model_deflate.specs.Gzip.{gunzip}
use Rattle.otlp_json.specs.Posted.{posted_bytes}
use Rattle.otlp_json.specs.declared.fault.JsonFault.{JsonFault}
use Rattle.otlp_serve.specs.Answers.{coding_of, field_values}
use Rattle.otlp_serve.specs.Posts.{HttpPost}
use Rattle.otlp_serve.specs.declared.coding.ContentCoding.{ContentCoding}
use Rattle.otlp_serve.specs.declared.coding.ContentCoding.TheVariants as codings
use Rattle.otlp_receiver.specs.Requests.{is_json}
use Rattle.otlp_receiver.specs.declared.reply.denial.Denial.{Denial}
use Rattle.otlp_receiver.specs.declared.reply.denial.Denial.TheVariants as denials
use Rattle.otlp_receiver.specs.declared.content.Undecoded.{Undecoded}
use Rattle.otlp_receiver.specs.declared.content.Undecoded.TheVariants as reasons

-- how the body of a request comes
abbrev pub coding_in : HttpPost → Option ContentCoding
coding_in post = coding_of (field_values post (codes "content-encoding"))

-- the bytes that a body means which comes in this coding, if they are at most this many
abbrev pub decoded : ℕ → Option ContentCoding → List ℕ → Result (List ℕ) Fault
decoded most (Some codings.Gzip) body = gunzip most body
decoded most _ body = Ok body

-- what was unpacked, or the body as it came
abbrev pub content_or : {A : Type 0} → List ℕ → Option (Vec ℕ A) → List ℕ
content_or body None = body
content_or body (Some content) = content.items

-- a body is of OTLP's JSON, by its first Content-Type (OTLP Specification, JSON Protobuf Encoding)
abbrev pub is_json_post : HttpPost → Bool
is_json_post post = is_json (get_all post.fields (codes "content-type"))

-- what is wrong with a body that means nothing
pub data ContentFault : Type 0 where
  coding : Fault → ContentFault
  json : JsonFault → ContentFault

-- the bytes that a text of JSON means
abbrev pub of_text : Result (List ℕ) JsonFault → Result (List ℕ) ContentFault
of_text (Ok bytes) = Ok bytes
of_text (Err fault) = Err (json fault)

-- what is decoded is the content, or a text of JSON that means the content
abbrev pub typed : Bool → Result (List ℕ) Fault → Result (List ℕ) ContentFault
typed is_text (Err fault) = Err (coding fault)
typed true (Ok text) = of_text (posted_bytes text)
typed false (Ok bytes) = Ok bytes

-- The content of a request: what its body means. Of a text of JSON it is the bytes that mean the
-- same in Protocol Buffers.
abbrev pub content_of : ℕ → HttpPost → Result (List ℕ) ContentFault
content_of most post = typed (is_json_post post) (decoded most (coding_in post) post.body)

-- why a request is refused whose body means nothing
abbrev pub denial_by_coding : Fault → Denial
denial_by_coding too_long = denials.BodyTooLarge
denial_by_coding _ = denials.BadCoding

abbrev pub denial_by_fault : ContentFault → Denial
denial_by_fault (coding fault) = denial_by_coding fault
denial_by_fault (json fault) = denials.BadBody

-- memory is needed to have the content: the body is a gzip file, or a text of JSON
abbrev pub TakesMemory : HttpPost → Type 0
TakesMemory post = (coding_in post ≡ Some codings.Gzip) ⊎ (is_json_post post ≡ true)

-- There is no content: the body means nothing, or memory was refused to read it.
abbrev pub IsUndecoded : ℕ → HttpPost → Undecoded → Type 0
IsUndecoded most post (reasons.Denied denial) =
    (fault : ContentFault) × (content_of most post ≡ Err fault) × (denial ≡ denial_by_fault fault)
IsUndecoded most post reasons.OutOfMemory = TakesMemory post

-- The same where a body isn't decoded.
abbrev pub IsPacked : ℕ → HttpPost → Undecoded → Type 0
IsPacked most post (reasons.Denied denial) = (fault : Fault)
    × (decoded most (coding_in post) post.body ≡ Err fault) × (denial ≡ denial_by_coding fault)
IsPacked most post reasons.OutOfMemory = coding_in post ≡ Some codings.Gzip

-- The same where a text of JSON isn't read.
abbrev pub IsNoText : List ℕ → Undecoded → Type 0
IsNoText text (reasons.Denied denial) =
    (fault : JsonFault) × (posted_bytes text ≡ Err fault) × (denial ≡ denials.BadBody)
IsNoText text reasons.OutOfMemory = Unit {0}
