-- What becomes of a request to receive spans. (OTLP Specification, OTLP/HTTP Request and OTLP/HTTP
-- Response)
use Rattle.std.specs.Prelude.{◌≡◌, ℕ, true, false, All, List, Option, Some, None}
use Rattle.std.specs.List.Sorted.{IsPermutation, IsStrictlyIncreasing}
use Rattle.std.specs.declared.sync.Arc.{Arc}
use Rattle.http.specs.Request.{head_of}
use Rattle.http.specs.declared.request.Request.{Request as HttpRequest}
use Rattle.http_server.specs.declared.response.Response.{Response}
use Rattle.model_message.specs.Messages.{meaning}
use Rattle.model_message.specs.Reading.{Reads}
use Rattle.model_message.specs.Tables
use Rattle.otlp_read.specs.Requests.{request_view}
use Rattle.otlp_read.specs.declared.request.Request.{Request}
use Rattle.otlp_serve.specs.Posts.{HttpPost}
use Rattle.otlp_receiver.specs.Requests.{denial_format}
use Rattle.otlp_receiver.specs.declared.reply.denial.Denial.{Denial}
use Rattle.otlp_receiver.specs.declared.reply.denial.Denial.TheVariants as denials
use Rattle.otlp_receiver.specs.declared.reply.format.Format.{Format}
use Rattle.otlp_receiver.specs.Contents.{TakesMemory}
use Rattle.otlp_receiver.specs.Posts.{HasContent, IsAnswer, IsDenied, post_of, refusal_of_post}
use Rattle.otlp_receiver.specs.Reads.{IsUnread, is_above, room_alone, size_denial}
use Rattle.otlp_receiver.specs.Reads.{size_of_content}
use Rattle.otlp_receiver.specs.declared.reading.Bounds.{Bounds}
use Rattle.otlp_receiver.specs.declared.reading.Unread.TheVariants as reasons
use Rattle.trace_store.specs.SpanParts.{keys_of}
use Rattle.trace_store.specs.Requests.{IsOfOneTrace, spans_of_parts, spans_of_request}
use Rattle.trace_store.specs.declared.span.ViewSpan.{ViewSpan}

-- spans by their traces: each part a trace and spans of it
abbrev pub Parts : Type 0 → Type 0
Parts A = List (ℕ × List (Arc (ViewSpan A) A))

-- Parts of a request, each of one trace: together they have its spans, each once and with its own
-- resource and scope.
pub record IsTakenApart {A : Type 0} (request : Request A) (parts : Parts A) : Type 0 where
  pub spans : IsPermutation (spans_of_request request) (spans_of_parts parts)
  pub traces : All IsOfOneTrace parts
  pub order : IsStrictlyIncreasing (keys_of parts)

-- the content means a request, which has these parts
abbrev pub HasParts : {A : Type 0} → List ℕ → Parts A → Type 0
HasParts {A} content parts = (request : Request A)
    × Reads (meaning Tables.request content) (request_view request) × IsTakenApart request parts

-- What keeps spans has kept these parts, and is then so.
abbrev pub Keeping : Type 0 → Type 0 → Type 1
Keeping A K = K → Parts A → K → Type 0

-- What keeps spans has no room for these parts, so.
abbrev pub Lacking : Type 0 → Type 0 → Type 1
Lacking A K = K → Parts A → Type 0

-- A keeper of spans in the first state has given up the oldest traces for this many bytes, which
-- leaves the second state.
abbrev pub Giving : Type 0 → Type 1
Giving K = K → ℕ → K → Type 0

-- What becomes of a content, where this many bytes may still be pending, and reading it may take
-- `alone` bytes when nothing else is: why it is refused, or nothing where it is taken. It is taken
-- only where it was read, and its parts were kept before.
-- Where it is refused, also for lack of room for its traces, what keeps the spans is as it was; but
-- where memory was lacking, it has given up the oldest traces for as many bytes as the reading
-- takes.
pub data ReceivesContent {A K : Type 0} (keeps : Keeping A K) (lacks_room : Lacking A K)
    (gives_up : Giving K) (old : K) (content : List ℕ) (room alone : ℕ) (denial : Option Denial)
    (new : K) : Type 0 where
  no_room : is_above content room ≡ true → denial ≡ Some (size_denial content alone) → new ≡ old
      → ReceivesContent keeps lacks_room gives_up old content room alone denial new
  unread : is_above content room ≡ false → IsUnread content reasons.Fault
      → denial ≡ Some denials.BadBody → new ≡ old
      → ReceivesContent keeps lacks_room gives_up old content room alone denial new
  too_large : (parts : Parts A) → is_above content room ≡ false → HasParts content parts
      → lacks_room old parts → denial ≡ Some denials.TracesTooLarge → new ≡ old
      → ReceivesContent keeps lacks_room gives_up old content room alone denial new
  no_memory : is_above content room ≡ false → denial ≡ Some denials.OutOfMemory
      → gives_up old (size_of_content content) new
      → ReceivesContent keeps lacks_room gives_up old content room alone denial new
  kept : (parts : Parts A) → is_above content room ≡ false → HasParts content parts
      → denial ≡ None → keeps old parts new
      → ReceivesContent keeps lacks_room gives_up old content room alone denial new

-- What becomes of a request whose content is within these bounds: it isn't for a collector, its
-- body means nothing, memory to read that was lacking, or its content is received.
-- Where memory was lacking, the oldest traces were given up for as many bytes as a content may
-- have.
pub data Receives {A K : Type 0} (keeps : Keeping A K) (lacks_room : Lacking A K)
    (gives_up : Giving K) (old : K) (bounds : Bounds) (post : HttpPost) (room : ℕ)
    (denial : Option Denial) (new : K) : Type 0 where
  denied : (reason : Denial) → IsDenied bounds.max_content post reason → denial ≡ Some reason
      → new ≡ old
      → Receives keeps lacks_room gives_up old bounds post room denial new
  undecoded : refusal_of_post post ≡ None → TakesMemory post
      → denial ≡ Some denials.OutOfMemory → gives_up old bounds.max_content new
      → Receives keeps lacks_room gives_up old bounds post room denial new
  read : (content : List ℕ) → HasContent bounds.max_content post content
      → ReceivesContent keeps lacks_room gives_up old content room
      (room_alone bounds.max_pending post.body) denial new
      → Receives keeps lacks_room gives_up old bounds post room denial new

-- a content that was sent for its spans to be received is answered so, in this format
abbrev pub AnswersContent : {A K : Type 0} → Keeping A K → Lacking A K → Giving K → K → List ℕ → ℕ
    → ℕ → Format → Response → K → Type 0
AnswersContent keeps lacks_room gives_up old content room alone format response new =
    (denial : Option Denial)
    × ReceivesContent keeps lacks_room gives_up old content room alone denial new
    × IsAnswer denial format response

-- a request to receive spans, whose content is within these bounds, is answered so
abbrev pub AnswersExport : {A K : Type 0} → Keeping A K → Lacking A K → Giving K → K
    → HttpRequest (List ℕ) → Bounds → ℕ → Response → K → Type 0
AnswersExport keeps lacks_room gives_up old request bounds room response new =
    (denial : Option Denial)
    × Receives keeps lacks_room gives_up old bounds (post_of request) room denial new
    × IsAnswer denial (denial_format (Some (head_of request))) response
