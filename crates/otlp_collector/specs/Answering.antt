-- What a connection is answered. (OTLP Specification, OTLP/HTTP Request and OTLP/HTTP Response; the
-- order: profile)
use Rattle.std.specs.Prelude.{◌≡◌, ℕ, ◌<◌, List, [], length, take, Option, Some, None, option_map}
use Rattle.std.specs.Option.{option_map_or}
use Rattle.std.specs.Io.KnownBytes.{Appends}
use Rattle.model_message.specs.Reading.{Reads}
use Rattle.model_message.specs.Messages.{meaning}
use Rattle.model_message.specs.Tables
use Rattle.model_message.specs.Tables.{Message}
use Rattle.http_wire.specs.Devices.{HasFailed}
use Rattle.http_wire.specs.declared.limits.HeadLimits.{HeadLimits}
use Rattle.otlp_wire.specs.Faults.{NamesOne}
use Rattle.otlp_wire.specs.declared.fault.ReadFault.{ReadFault}
use Rattle.otlp_wire.specs.declared.fault.ReadFault.TheVariants.{Wire, BadUtf8, TooDeep}
use Rattle.otlp_wire.specs.declared.fault.ReadFault.TheVariants.{OutOfMemory}
use Rattle.otlp_serve.specs.Answers.{plain_reply, refusal_of, reply_to_fault}
use Rattle.otlp_serve.specs.Posts.{HttpPost, IsPost, HasNoPost, CountsAtPost}
use Rattle.otlp_serve.specs.Replies.{code_of, reply_text}
use Rattle.otlp_serve.specs.declared.fault.PostFault.{PostFault}
use Rattle.otlp_serve.specs.declared.reply.PostReply.{PostReply}
use Rattle.otlp_serve.specs.declared.status.ReplyStatus.{ReplyStatus}
use Rattle.otlp_serve.specs.declared.status.ReplyStatus.TheVariants as statuses
use Rattle.otlp_collector.specs.declared.canned.Canned.{Canned}
use Rattle.otlp_collector.specs.declared.canned.CannedStatus.{CannedStatus}
use Rattle.otlp_collector.specs.declared.canned.CannedStatus.TheVariants as canned_statuses

-- the status of a reply that is canned (profile)
abbrev pub canned_status : CannedStatus → ReplyStatus
canned_status canned_statuses.Ok = statuses.Ok
canned_status canned_statuses.TooManyRequests = statuses.TooManyRequests
canned_status canned_statuses.BadGateway = statuses.BadGateway
canned_status canned_statuses.ServiceUnavailable = statuses.ServiceUnavailable
canned_status canned_statuses.GatewayTimeout = statuses.GatewayTimeout

-- a request that is taken is answered 200, or what is canned (profile)
abbrev pub canned_reply : Option Canned → PostReply
canned_reply None = plain_reply statuses.Ok
canned_reply (Some canned) =
    record { status = canned_status canned.status; retry_after = canned.retry_after }

-- a request whose body isn't read is bad, or may be tried again in a second where memory was
-- refused
abbrev pub reply_to_unread : ReadFault → PostReply
reply_to_unread OutOfMemory =
    record { status = statuses.ServiceUnavailable; retry_after = Some 1 }
reply_to_unread (Wire fault) = plain_reply statuses.BadRequest
reply_to_unread BadUtf8 = plain_reply statuses.BadRequest
reply_to_unread TooDeep = plain_reply statuses.BadRequest

-- What came is answered so, if at all, and this request is taken, if any: where no request came, it
-- is answered for its fault; where it is refused, for that; where its body has a fault, or memory
-- to read it was refused, for that; and else the body means the request. The reader, which had
-- these bytes and failures before and after, was asked for no more than the request.
pub data Judges (limits : HeadLimits) (canned : Option Canned) (old new : Option (List ℕ))
    (before after : ℕ) (reply : Option PostReply) (request : Option (Message Tables.request))
    : Type 0 where
  no_post : (fault : PostFault) → HasNoPost limits old new (HasFailed before after) fault
      → CountsAtPost fault before after → reply ≡ reply_to_fault fault → request ≡ None
      → Judges limits canned old new before after reply request
  refused : (post : HttpPost) → IsPost limits old new (HasFailed before after) post
      → after ≡ before → (refusal : PostReply) → refusal_of post ≡ Some refusal
      → reply ≡ Some refusal → request ≡ None
      → Judges limits canned old new before after reply request
  unread : (post : HttpPost) → IsPost limits old new (HasFailed before after) post
      → after ≡ before → refusal_of post ≡ None
      → (fault : ReadFault) → NamesOne (meaning Tables.request post.body).faults fault
      → reply ≡ Some (reply_to_unread fault) → request ≡ None
      → Judges limits canned old new before after reply request
  taken : (post : HttpPost) → IsPost limits old new (HasFailed before after) post
      → after ≡ before → refusal_of post ≡ None
      → (message : Message Tables.request) → Reads (meaning Tables.request post.body) message
      → reply ≡ Some (canned_reply canned) → request ≡ Some message
      → Judges limits canned old new before after reply request

-- the connection is answered so, by a whole reply, or by nothing
pub record Serves (limits : HeadLimits) (canned : Option Canned) (old new : Option (List ℕ))
    (before after : ℕ) (written writes : Option (List ℕ)) (status : Option ℕ)
    (request : Option (Message Tables.request)) : Type 0 where
  pub reply : Option PostReply
  pub judges : Judges limits canned old new before after reply request
  pub status_is : status ≡ option_map (λ r. code_of r.status) reply
  pub writes_it : Appends written writes (option_map_or reply_text reply [])

-- the reply broke off after this number of bytes
pub record Breaks (limits : HeadLimits) (canned : Option Canned) (old new : Option (List ℕ))
    (before after : ℕ) (written writes : Option (List ℕ)) (sent : ℕ) : Type 0 where
  pub reply : PostReply
  pub request : Option (Message Tables.request)
  pub judges : Judges limits canned old new before after (Some reply) request
  pub within : sent < length (reply_text reply)
  pub writes_it : Appends written writes (take sent (reply_text reply))
