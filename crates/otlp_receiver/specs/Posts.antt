-- Which posts of spans are refused, and how they are answered. (OTLP Specification, OTLP/HTTP
-- Request and OTLP/HTTP Response)
use Rattle.std.specs.Prelude.{◌≡◌, ℕ, List, Option, Some, None, Ok, Err, ◌&&◌, ◌||◌, codes}
use Rattle.std.specs.Prelude.{is_some}
use Rattle.http.specs.Request.{body_of, head_of}
use Rattle.http.specs.declared.request.Request.{Request as HttpRequest}
use Rattle.http_server.specs.declared.response.Response.{Response}
use Rattle.http_uri.specs.Uri.{uri_path}
use Rattle.otlp_serve.specs.Answers.{field_values, is_protobuf, refusal_where}
use Rattle.otlp_serve.specs.Posts.{HttpPost}
use Rattle.otlp_serve.specs.declared.reply.PostReply.{PostReply}
use Rattle.otlp_serve.specs.declared.status.ReplyStatus.{ReplyStatus}
use Rattle.otlp_serve.specs.declared.status.ReplyStatus.TheVariants as statuses
use Rattle.otlp_receiver.specs.Denials.{IsDenial, IsSuccess}
use Rattle.otlp_receiver.specs.declared.reply.denial.Denial.{Denial}
use Rattle.otlp_receiver.specs.declared.reply.denial.Denial.TheVariants as denials
use Rattle.otlp_receiver.specs.declared.reply.format.Format.{Format}
use Rattle.otlp_receiver.specs.Contents.{ContentFault, TakesMemory, coding_in, content_of}
use Rattle.otlp_receiver.specs.Contents.{denial_by_fault, is_json_post}
use Rattle.otlp_receiver.specs.declared.content.Undecoded.{Undecoded}
use Rattle.otlp_receiver.specs.declared.content.Undecoded.TheVariants as reasons

-- the path of a request
abbrev pub path_of : HttpRequest (List ℕ) → List ℕ
path_of request = uri_path (head_of request).uri

-- a request, as a collector sees it; its target is the path, without a query
abbrev pub post_of : HttpRequest (List ℕ) → HttpPost
post_of request = record {
  method = (head_of request).method;
  target = path_of request;
  fields = (head_of request).headers;
  body = body_of request;
}

-- Why a request is refused, if it is, where bodies of Protocol Buffers and of JSON are read, as
-- they are or in gzip. (OTLP Specification, OTLP/HTTP Request)
abbrev pub refusal_of_post : HttpPost → Option PostReply
refusal_of_post post =
    refusal_where ((is_json_post post || is_protobuf (field_values post (codes "content-type")))
    && is_some (coding_in post)) post

-- the reply, if it isn't for the type or the coding of the body alone
abbrev pub unless_unsupported : ReplyStatus → PostReply → Option PostReply
unless_unsupported statuses.UnsupportedMediaType reply = None
unless_unsupported _ reply = Some reply

abbrev pub unless_type : Option PostReply → Option PostReply
unless_type None = None
unless_type (Some reply) = unless_unsupported reply.status reply

-- why a request is refused that a collector answers so
abbrev pub denial_by_status : ReplyStatus → Denial
denial_by_status statuses.NotFound = denials.NoPath
denial_by_status statuses.MethodNotAllowed = denials.ExportMethod
denial_by_status _ = denials.MediaType

abbrev pub denial_by_reply : PostReply → Denial
denial_by_reply reply = denial_by_status reply.status

-- A post is taken, and this is its content, where that may have at most so many bytes.
abbrev pub HasContent : ℕ → HttpPost → List ℕ → Type 0
HasContent most post content =
    (refusal_of_post post ≡ None) × (content_of most post ≡ Ok content)

-- A post is refused for this reason, where its content may have at most so many bytes: it isn't
-- for a collector, or its body means nothing.
pub data IsDenied (most : ℕ) (post : HttpPost) (denial : Denial) : Type 0 where
  refused : (reply : PostReply) → refusal_of_post post ≡ Some reply
      → denial ≡ denial_by_reply reply → IsDenied most post denial
  meaningless : (fault : ContentFault) → refusal_of_post post ≡ None
      → content_of most post ≡ Err fault → denial ≡ denial_by_fault fault
      → IsDenied most post denial

-- there is no content: the post is refused, or memory was refused to have its content
abbrev pub IsTurnedAway : ℕ → HttpPost → Undecoded → Type 0
IsTurnedAway most post (reasons.Denied denial) = IsDenied most post denial
IsTurnedAway most post reasons.OutOfMemory =
    (refusal_of_post post ≡ None) × TakesMemory post

-- The response says why a request is refused, or that its spans were taken.
abbrev pub IsAnswer : Option Denial → Format → Response → Type 0
IsAnswer (Some denial) format response = IsDenial denial format response
IsAnswer None format response = IsSuccess format response
