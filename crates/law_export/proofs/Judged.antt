-- What a collector makes of the request that carries a body.
use Rattle.std.proofs.Common.{◌≡◌, ◌≢◌, ℕ, List, [], length, append-nil, bytes_eq, not, refl, sym}
use Rattle.std.proofs.Common.{ap, ◌∙◌, ◌⊎◌, inl, inr, arith, codes, Option, Some, None, Ok, Err}
use Rattle.std.specs.Prelude.{◌&&◌, if◌then◌else◌}
use Rattle.model_message.specs.Reading.{Fault}
use Rattle.model_message.specs.Messages.{meaning, body_meaning, triples}
use Rattle.model_message.specs.Tables
use Rattle.model_message.specs.Tables.{Message}
use Rattle.model_span.specs.Spans.{SpanData}
use Rattle.model_export.specs.Export.{grouped_triples}
use Rattle.http_wire.specs.declared.fault.HttpFault.{HttpFault}
use Rattle.http_wire.specs.declared.fault.HttpFault.TheVariants as faults
use Rattle.http_wire.specs.declared.limits.HeadLimits.{HeadLimits}
use Rattle.http_wire.specs.Devices.{HasFailed}
use Rattle.otlp_wire.specs.Faults.{NamesOne}
use Rattle.otlp_wire.specs.declared.fault.ReadFault.{ReadFault}
use Rattle.otlp_wire.specs.declared.fault.ReadFault.TheVariants as read_faults
use Rattle.otlp_serve.specs.declared.fault.PostFault.{PostFault}
use Rattle.otlp_serve.specs.declared.fault.PostFault.TheVariants.{Head, Body}
use Rattle.otlp_serve.specs.declared.reply.PostReply.{PostReply}
use Rattle.otlp_serve.specs.declared.status.ReplyStatus.TheVariants as statuses
use Rattle.otlp_serve.specs.Answers.{is_for_traces, is_plain, is_protobuf, plain_reply, refusal_of}
use Rattle.otlp_serve.specs.Answers.{reply_by, reply_to_fault}
use Rattle.otlp_serve.specs.Posts.{HttpPost, IsPost, HasNoPost}
use Rattle.otlp_collector.specs.Answering.{Judges, no_post, refused, unread, taken, reply_to_unread}
use Rattle.law_export.specs.Requests.{BytesMeanOnePost, IsPostMeaning, IsSamePost, LacksPostMemory}
use Rattle.law_export.specs.Delivery.{Carries, Holds, wants_memory}

-- the reply is for want of memory, or the spans were taken
pub data Verdict (spans : List SpanData) (reply : Option PostReply)
    (request : Option (Message Tables.request)) : Type 0 where
  wanting : reply ≡ Some wants_memory → request ≡ None → Verdict spans reply request
  whole : reply ≡ Some (plain_reply statuses.Ok) → Holds spans request → Verdict spans reply request

-- ---- no request

memory_of : (fault : HttpFault) → (fault ≡ faults.OutOfMemory) ⊎ (fault ≢ faults.OutOfMemory)
memory_of faults.OutOfMemory = inl refl
memory_of faults.Ended = inr (λ e. absurd cc)
memory_of faults.Device = inr (λ e. absurd cc)
memory_of faults.BadHead = inr (λ e. absurd cc)
memory_of faults.BadLength = inr (λ e. absurd cc)
memory_of faults.BadChunk = inr (λ e. absurd cc)
memory_of faults.TooLarge = inr (λ e. absurd cc)

memory : (fault : PostFault) → LacksPostMemory (Err fault) ⊎ ¬ (LacksPostMemory (Err fault))
memory (Head fault) = memory_of fault
memory (Body fault) = memory_of fault

told : (fault : PostFault) → LacksPostMemory (Err fault) → reply_to_fault fault ≡ Some wants_memory
told (Head fault) e = ap (reply_by statuses.RequestHeaderFieldsTooLarge) e
told (Body fault) e = ap (reply_by statuses.ContentTooLarge) e

-- ---- another request

abbrev refusal_by : List ℕ → List ℕ → List (List ℕ) → List (List ℕ) → Option PostReply
refusal_by method target types encodings =
    if not (is_for_traces target) then Some (plain_reply statuses.NotFound)
    else if not (bytes_eq method (codes "POST")) then Some (plain_reply statuses.MethodNotAllowed)
    else if not (is_protobuf types && is_plain encodings)
    then Some (plain_reply statuses.UnsupportedMediaType)
    else None

same_refusal : (post other : HttpPost) → IsSamePost post other → refusal_of other ≡ refusal_of post
same_refusal post other same =
    λ i. refusal_by (same.method i) (same.target i) (same.fields (codes "content-type") i)
    (same.fields (codes "content-encoding") i)

-- ---- the body

carried : (body : List ℕ) (spans : List SpanData) → Carries body spans
    → ((meaning Tables.request body).faults ≡ [])
    × (triples (meaning Tables.request body).value ≡ grouped_triples spans)
unfolding body_meaning
carried body spans carries = (sym (append-nil _) ∙ carries.0, carries.1)

named : (found : List Fault) (fault : ReadFault) → found ≡ [] → NamesOne found fault
    → fault ≡ read_faults.OutOfMemory
named found (read_faults.Wire fault) none x =
    let size = ap length none in let inside = x.1 in absurd (omega (arith, size, inside))
named found read_faults.BadUtf8 none x =
    let size = ap length none in let inside = x.1 in absurd (omega (arith, size, inside))
named found read_faults.TooDeep none x =
    let size = ap length none in let inside = x.1 in absurd (omega (arith, size, inside))
named found read_faults.OutOfMemory none x = refl

-- ---- all of it

-- a request that isn't refused is at the front of the bytes, and no read failed
pub record Stands (limits : HeadLimits) (bytes : List ℕ) (body : List ℕ)
    (before after : ℕ) : Type 0 where
  pub post : HttpPost
  pub is : IsPostMeaning limits bytes (Ok post)
  pub body_is : post.body ≡ body
  pub accepted : refusal_of post ≡ None
  pub sound : ¬ (HasFailed before after)

other_post : (one_post : BytesMeanOnePost) (limits : HeadLimits) (bytes body left : List ℕ)
    (before after : ℕ) (x : Stands limits bytes body before after) (other : HttpPost)
    → IsPost limits (Some bytes) (Some left) (HasFailed before after) other
    → IsSamePost x.post other
other_post one_post limits bytes body left before after x other is =
    one_post limits bytes x.post (Ok other) x.is
    (record {
      left = left;
      old = before;
      new = after;
      means = is;
      sound = x.sound;
      ample = λ lacks. lacks;
    })

lacks_memory : (one_post : BytesMeanOnePost) (limits : HeadLimits) (bytes body left : List ℕ)
    (before after : ℕ)
    → Stands limits bytes body before after → (fault : PostFault)
    → HasNoPost limits (Some bytes) (Some left) (HasFailed before after) fault
    → LacksPostMemory (Err fault)
lacks_memory one_post limits bytes body left before after x fault none = elim (memory fault) [
  | inl lacks ↦ lacks
  | inr ample ↦
      absurd (one_post limits bytes x.post (Err fault) x.is
      (record {
        left = left;
        old = before;
        new = after;
        means = none;
        sound = x.sound;
        ample = ample;
      }))
]

judged_left : (one_post : BytesMeanOnePost) (limits : HeadLimits) (bytes body left : List ℕ)
    (spans : List SpanData) (before after : ℕ) (reply : Option PostReply)
    (request : Option (Message Tables.request))
    → Stands limits bytes body before after → Carries body spans
    → Judges limits None (Some bytes) (Some left) before after reply request
    → Verdict spans reply request
judged_left one_post limits bytes body left spans before after reply request x carries judges =
    elim judges [
      | no_post fault none counts answer without ↦
          wanting (answer
          ∙ told fault (lacks_memory one_post limits bytes body left before after x fault none))
          without
      | refused post is quiet refusal why answer without ↦
          let same = other_post one_post limits bytes body left before after x post is in
          let never : Some refusal ≡ None = sym why ∙ same_refusal x.post post same ∙ x.accepted in
          absurd cc
      | unread post is quiet accepted fault names answer without ↦
          let same = other_post one_post limits bytes body left before after x post is in
          let none =
          ap (λ b. (meaning Tables.request b).faults) (same.body ∙ x.body_is)
          ∙ (carried body spans carries).0 in
          wanting (answer ∙ ap (λ f. Some (reply_to_unread f)) (named _ fault none names)) without
      | taken post is quiet accepted message reads answer with ↦
          let same = other_post one_post limits bytes body left before after x post is in
          whole answer (record {
            message = message;
            is_read = with;
            same =
                ap triples (sym reads.1)
                ∙ ap (λ b. triples (meaning Tables.request b).value) (same.body ∙ x.body_is)
                ∙ (carried body spans carries).1;
          })
    ]

-- Where the bytes that come are known, so are those that are left.
none_left : (limits : HeadLimits) (bytes : List ℕ) (failed : Type 0) (fault : PostFault)
    → HasNoPost limits (Some bytes) None failed fault → ⊥
none_left limits bytes failed (Head fault) x = x.taken
none_left limits bytes failed (Body fault) x = x.comes.comes

left_not : (limits : HeadLimits) (bytes : List ℕ) (before after : ℕ) (reply : Option PostReply)
    (request : Option (Message Tables.request))
    → Judges limits None (Some bytes) None before after reply request → ⊥
left_not limits bytes before after reply request judges = elim judges [
  | no_post fault none counts answer without ↦ none_left limits bytes _ fault none
  | refused post is quiet refusal why answer without ↦ is.comes.comes
  | unread post is quiet accepted fault names answer without ↦ is.comes.comes
  | taken post is quiet accepted message reads answer with ↦ is.comes.comes
]

-- A collector takes the spans of the request at the front of its bytes, or replies that it wants
-- memory.
pub judged : (one_post : BytesMeanOnePost) (limits : HeadLimits) (bytes body : List ℕ)
    (new : Option (List ℕ)) (spans : List SpanData) (before after : ℕ) (reply : Option PostReply)
    (request : Option (Message Tables.request))
    → Stands limits bytes body before after → Carries body spans
    → Judges limits None (Some bytes) new before after reply request → Verdict spans reply request
judged one_post limits bytes body None spans before after reply request x carries judges =
    absurd (left_not limits bytes before after reply request judges)
judged one_post limits bytes body (Some left) spans before after reply request x carries judges =
    judged_left one_post limits bytes body left spans before after reply request x carries judges
