-- One batch, end to end: the request that carries its body comes to a collector, which answers it.
-- (OTLP Specification, OTLP/HTTP; opentelemetry-proto, trace_service.proto)
use Rattle.std.specs.Prelude.{◌≡◌, ℕ, ◌^◌, ◌<◌, ◌≤◌, ◌⊎◌, List, [], ◌++◌, length, take, codes}
use Rattle.std.specs.Prelude.{Option, Some, None}
use Rattle.std.specs.Io.KnownBytes.{Appends}
use Rattle.model_message.specs.Reading.{Reads}
use Rattle.model_message.specs.Messages.{body_meaning, meaning, triples}
use Rattle.model_message.specs.Tables
use Rattle.model_message.specs.Tables.{Message}
use Rattle.model_span.specs.Spans.{SpanData}
use Rattle.model_export.specs.Export.{grouped_triples}
use Rattle.http_wire.specs.Devices.{HasFailed}
use Rattle.http_wire.specs.declared.fault.HttpFault.TheVariants as faults
use Rattle.http_wire.specs.declared.limits.HeadLimits.{HeadLimits}
use Rattle.otlp_http.specs.Address.{Address, IsTarget}
use Rattle.otlp_http.specs.Request.{request_head, request_text}
use Rattle.otlp_wire.specs.Faults.{NamesOne}
use Rattle.otlp_wire.specs.declared.fault.ReadFault.TheVariants.{OutOfMemory}
use Rattle.otlp_serve.specs.Answers.{plain_reply, refusal_of}
use Rattle.otlp_serve.specs.Posts.{HttpPost, IsPost, HasNoPost}
use Rattle.otlp_serve.specs.Replies.{reply_text}
use Rattle.otlp_serve.specs.declared.fault.PostFault.TheVariants.{Head, Body}
use Rattle.otlp_serve.specs.declared.reply.PostReply.{PostReply}
use Rattle.otlp_serve.specs.declared.status.ReplyStatus.TheVariants as statuses
use Rattle.otlp_collector.specs.Answering.{Serves, Breaks}
use Rattle.otlp_collector.specs.declared.canned.Canned.{Canned}

-- ---- what is sent

-- The body carries these spans: it means their images, grouped by resource and scope, and has no
-- fault. (opentelemetry-proto, trace_service.proto: ExportTraceServiceRequest)
abbrev pub Carries : List ℕ → List SpanData → Type 0
Carries body spans = Reads (body_meaning body) (grouped_triples spans)

-- A target whose path is that of traces, and whose requests have no fields of a program's own. A
-- port has 16 bits. (OTLP Specification, OTLP/HTTP Request)
pub record IsForTraces (address : Address) : Type 0 where
  pub target : IsTarget address
  pub port : address.port < 2 ^ 16
  pub path : address.path ≡ codes "/v1/traces"
  pub plain : address.fields ≡ []

-- The limits allow the request: the bytes of its head, the four fields that it has, and the bytes
-- of its body. A body's length is reported in 64 bits. (profile)
pub record IsAllowed (limits : HeadLimits) (address : Address) (body : List ℕ) : Type 0 where
  pub head_bytes : length (request_head address (length body)) ≤ limits.head
  pub four_fields : 4 ≤ limits.fields
  pub body_bytes : length body ≤ limits.body
  pub counted : length body < 2 ^ 64

-- The request that carries the body to the address comes to a reader that had these bytes left:
-- they are the request's text, and then any bytes, and no read fails, by the counts of failures
-- before and after it. (RFC 9112, section 2.1)
pub record Arrives (limits : HeadLimits) (address : Address) (body : List ℕ)
    (bytes : Option (List ℕ)) (before after : ℕ) : Type 0 where
  pub appended : List ℕ
  pub whole : bytes ≡ Some (request_text address body ++ appended)
  pub sound : ¬ (HasFailed before after)
  pub address_is : IsForTraces address
  pub allowed : IsAllowed limits address body

-- ---- what becomes of it

-- A request was read back that has these spans, in the order of its groups, and nothing else.
-- (opentelemetry-proto, trace_service.proto: ExportTraceServiceRequest)
pub record Holds (spans : List SpanData) (request : Option (Message Tables.request))
    : Type 0 where
  pub message : Message Tables.request
  pub is_read : request ≡ Some message
  pub same : triples message ≡ grouped_triples spans

-- what is answered where memory was refused, and for nothing else (profile)
abbrev pub wants_memory : PostReply
wants_memory = record { status = statuses.ServiceUnavailable; retry_after = Some 1 }

-- The request is answered 503 for want of memory, and none is taken, or 200, and these spans are
-- taken.
pub data IsDelivered (spans : List SpanData) (written writes : Option (List ℕ))
    (status : Option ℕ) (request : Option (Message Tables.request)) : Type 0 where
  refused : status ≡ Some 503 → request ≡ None
      → Appends written writes (reply_text wants_memory)
      → IsDelivered spans written writes status request
  taken : status ≡ Some 200 → Holds spans request
      → Appends written writes (reply_text (plain_reply statuses.Ok))
      → IsDelivered spans written writes status request

-- A batch arrives: whatever spans a body carries, a collector to which its request comes, and for
-- which no reply is canned, takes these spans and answers 200, or wants memory and answers 503.
abbrev pub BatchArrives : Type 0
BatchArrives =
    (limits : HeadLimits) (address : Address) (spans : List SpanData) (body : List ℕ)
    (old new : Option (List ℕ)) (before after : ℕ) (written writes : Option (List ℕ))
    (status : Option ℕ) (request : Option (Message Tables.request))
    → Carries body spans → Arrives limits address body old before after
    → Serves limits None old new before after written writes status request
    → IsDelivered spans written writes status request

-- The first `sent` bytes of a reply went out, and not all of them.
abbrev pub IsCut : PostReply → Option (List ℕ) → Option (List ℕ) → ℕ → Type 0
IsCut reply written writes sent =
    (sent < length (reply_text reply)) × Appends written writes (take sent (reply_text reply))

-- Where the reply broke off, it was one of the same two.
abbrev pub BrokenReplyIsOneOfTwo : Type 0
BrokenReplyIsOneOfTwo =
    (limits : HeadLimits) (address : Address) (spans : List SpanData) (body : List ℕ)
    (old new : Option (List ℕ)) (before after : ℕ) (written writes : Option (List ℕ))
    (sent : ℕ)
    → Carries body spans → Arrives limits address body old before after
    → Breaks limits None old new before after written writes sent
    → IsCut wants_memory written writes sent
    ⊎ IsCut (plain_reply statuses.Ok) written writes sent

-- Where a request is taken, with a canned reply or without, no byte after it was read.
abbrev pub BytesAfterAreLeft : Type 0
BytesAfterAreLeft =
    (limits : HeadLimits) (canned : Option Canned) (address : Address) (body : List ℕ)
    (old new : Option (List ℕ)) (before after : ℕ) (written writes : Option (List ℕ))
    (status : Option ℕ) (message : Message Tables.request)
    → (arrives : Arrives limits address body old before after)
    → Serves limits canned old new before after written writes status (Some message)
    → new ≡ Some arrives.appended

-- ---- why a collector is unavailable

-- Where 503 may come from: the head of a request wasn't whole yet, its fields or its body were
-- being kept, or the request came and isn't refused, and its body was being read. That memory was
-- really refused there no contract of an allocator says. (profile)
pub data WantsMemory (limits : HeadLimits) (old new : Option (List ℕ)) (before after : ℕ)
    : Type 0 where
  for_head : HasNoPost limits old new (HasFailed before after) (Head faults.OutOfMemory)
      → WantsMemory limits old new before after
  for_body : HasNoPost limits old new (HasFailed before after) (Body faults.OutOfMemory)
      → WantsMemory limits old new before after
  for_message : (post : HttpPost) → IsPost limits old new (HasFailed before after) post
      → refusal_of post ≡ None → NamesOne (meaning Tables.request post.body).faults OutOfMemory
      → WantsMemory limits old new before after

-- Whatever came, where no reply is canned 503 is answered only where memory is asked for.
abbrev pub UnavailableWantsMemory : Type 0
UnavailableWantsMemory =
    (limits : HeadLimits) (old new : Option (List ℕ)) (before after : ℕ)
    (written writes : Option (List ℕ)) (request : Option (Message Tables.request))
    → Serves limits None old new before after written writes (Some 503) request
    → WantsMemory limits old new before after
