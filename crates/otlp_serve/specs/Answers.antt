-- What a request is answered: the first of these that holds. (OTLP Specification, OTLP/HTTP Request
-- and OTLP/HTTP Response; RFC 9110, section 15.5; the order: profile)
use Rattle.std.specs.Prelude.{ℕ, Bool, false, ◌&&◌, ◌||◌, ◌==◌, not, bytes_eq, if◌then◌else◌}
use Rattle.std.specs.Prelude.{List, [], ◌∷◌, map, is_some}
use Rattle.std.specs.Prelude.{reverse, codes, Option, Some, None}
use Rattle.std.specs.List.{list_all}
use Rattle.httparse.specs.Grammar.{skip_ows}
use Rattle.http_header.specs.HeaderMap.{get_all}
use Rattle.http_header.specs.Token.{lowercase}
use Rattle.http_wire.specs.declared.fault.HttpFault.{HttpFault}
use Rattle.http_wire.specs.declared.fault.HttpFault.TheVariants as faults
use Rattle.otlp_serve.specs.declared.coding.ContentCoding.{ContentCoding}
use Rattle.otlp_serve.specs.declared.coding.ContentCoding.TheVariants as codings
use Rattle.otlp_serve.specs.declared.fault.PostFault.{PostFault}
use Rattle.otlp_serve.specs.declared.fault.PostFault.TheVariants.{Head, Body}
use Rattle.otlp_serve.specs.declared.reply.PostReply.{PostReply}
use Rattle.otlp_serve.specs.declared.status.ReplyStatus.{ReplyStatus}
use Rattle.otlp_serve.specs.declared.status.ReplyStatus.TheVariants as statuses
use Rattle.otlp_serve.specs.Posts.{HttpPost}

-- a reply that asks for no wait
abbrev pub plain_reply : ReplyStatus → PostReply
plain_reply status = record { status = status; retry_after = None }

-- what a fault is answered, where `large` says that too much came: nothing where the bytes ended or
-- the device failed, and that it may be tried again in a second where memory was refused
abbrev pub reply_by : ReplyStatus → HttpFault → Option PostReply
reply_by large faults.Ended = None
reply_by large faults.Device = None
reply_by large faults.OutOfMemory =
    Some (record { status = statuses.ServiceUnavailable; retry_after = Some 1 })
reply_by large faults.TooLarge = Some (plain_reply large)
reply_by large faults.BadHead = Some (plain_reply statuses.BadRequest)
reply_by large faults.BadLength = Some (plain_reply statuses.BadRequest)
reply_by large faults.BadChunk = Some (plain_reply statuses.BadRequest)

-- what a fault is answered, by where it was found
abbrev pub reply_to_fault : PostFault → Option PostReply
reply_to_fault (Head fault) = reply_by statuses.RequestHeaderFieldsTooLarge fault
reply_to_fault (Body fault) = reply_by statuses.ContentTooLarge fault

-- the bytes before the first of that value, and all where it isn't there
abbrev pub before : ℕ → List ℕ → List ℕ
before stop [] = []
before stop (byte ∷ bytes) = if byte == stop then [] else byte ∷ before stop bytes

-- the bytes without the spaces and tabs at their end
abbrev pub without_end_blanks : List ℕ → List ℕ
without_end_blanks bytes = reverse (skip_ows (reverse bytes))

-- equal but for the case of ASCII letters
abbrev pub is_same_word : List ℕ → List ℕ → Bool
is_same_word word other = bytes_eq (lowercase word) (lowercase other)

-- the type without its parameters (RFC 9110, section 8.3.1)
abbrev pub media_type : List ℕ → List ℕ
media_type value = without_end_blanks (before 59 value)

-- the first of the values of Content-Type is the type of OTLP's messages (OTLP Specification,
-- Binary Protobuf Encoding; the first: profile)
abbrev pub is_protobuf : List (List ℕ) → Bool
is_protobuf [] = false
is_protobuf (value ∷ values) = is_same_word (media_type value) (codes "application/x-protobuf")

-- each of the values of Content-Encoding says that nothing was encoded (profile)
abbrev pub is_plain : List (List ℕ) → Bool
is_plain values = list_all (λ value. is_same_word value (codes "identity")) values

-- the values of the fields of that name, which is in lower case, in their order
abbrev pub field_values : HttpPost → List ℕ → List (List ℕ)
field_values post name = map (λ value. value.bytes) (get_all post.fields name)

-- the target up to its query is the path of traces (OTLP Specification, OTLP/HTTP Request)
abbrev pub is_for_traces : List ℕ → Bool
is_for_traces target = bytes_eq (before 63 target) (codes "/v1/traces")

-- a body was compressed once (RFC 9110, section 8.4.1.3; in one field alone: profile)
abbrev pub is_gzip : List (List ℕ) → Bool
is_gzip (value ∷ []) = is_same_word value (codes "gzip") || is_same_word value (codes "x-gzip")
is_gzip _ = false

-- how a body comes, by the values of Content-Encoding, where a receiver of gzip reads it
abbrev pub coding_of : List (List ℕ) → Option ContentCoding
coding_of values =
    if is_plain values then Some codings.Identity
    else if is_gzip values then Some codings.Gzip
    else None

-- why a request is refused, if it is, where the type and the coding of its body are read, or not
abbrev pub refusal_where : Bool → HttpPost → Option PostReply
refusal_where is_read post =
    if not (is_for_traces post.target) then Some (plain_reply statuses.NotFound)
    else if not (bytes_eq post.method (codes "POST"))
    then Some (plain_reply statuses.MethodNotAllowed)
    else if not is_read
    then Some (plain_reply statuses.UnsupportedMediaType)
    else None

-- why a request that was read is refused, if it is
abbrev pub refusal_of : HttpPost → Option PostReply
refusal_of post =
    refusal_where (is_protobuf (field_values post (codes "content-type"))
    && is_plain (field_values post (codes "content-encoding"))) post

-- the same where bodies in gzip are read too
abbrev pub refusal_with_gzip : HttpPost → Option PostReply
refusal_with_gzip post =
    refusal_where (is_protobuf (field_values post (codes "content-type"))
    && is_some (coding_of (field_values post (codes "content-encoding")))) post
