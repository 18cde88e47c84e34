-- 503 is for want of memory alone.
use Rattle.std.proofs.Common.{◌≡◌, ℕ, ◌==◌, Bool, true, false, List, not, bytes_eq, refl, sym, ap}
use Rattle.std.proofs.Common.{◌∙◌, codes, Option, Some, None}
use Rattle.std.specs.Prelude.{◌&&◌, if◌then◌else◌, option_map}
use Rattle.std.proofs.lemmas.Bool.{false≢true}
use Rattle.http_wire.specs.declared.fault.HttpFault.TheVariants as faults
use Rattle.http_wire.specs.declared.limits.HeadLimits.{HeadLimits}
use Rattle.http_wire.specs.Devices.{HasFailed}
use Rattle.otlp_wire.specs.declared.fault.ReadFault.{ReadFault}
use Rattle.otlp_wire.specs.declared.fault.ReadFault.TheVariants as read_faults
use Rattle.otlp_serve.specs.declared.fault.PostFault.{PostFault}
use Rattle.otlp_serve.specs.declared.fault.PostFault.TheVariants.{Head, Body}
use Rattle.otlp_serve.specs.declared.reply.PostReply.{PostReply}
use Rattle.otlp_serve.specs.declared.status.ReplyStatus.TheVariants as statuses
use Rattle.otlp_serve.specs.Answers.{field_values, is_for_traces, is_plain, is_protobuf}
use Rattle.otlp_serve.specs.Answers.{plain_reply, refusal_of, reply_to_fault}
use Rattle.otlp_serve.specs.Posts.{HttpPost, IsPost, HasNoPost}
use Rattle.otlp_serve.specs.Replies.{code_of}
use Rattle.otlp_collector.specs.Answering.{no_post, refused, unread, taken, canned_reply}
use Rattle.otlp_collector.specs.Answering.{reply_to_unread}
use Rattle.law_export.specs.Delivery.{UnavailableWantsMemory, WantsMemory, for_head, for_body}
use Rattle.law_export.specs.Delivery.{for_message}

-- the status of a reply, and whether it is 503
abbrev status_of : Option PostReply → Option ℕ
status_of reply = option_map (λ r. code_of r.status) reply

abbrev is_unavailable : Option ℕ → Bool
is_unavailable None = false
is_unavailable (Some status) = status == 503

-- A reply with another status is not 503.
other : (reply : Option PostReply) → is_unavailable (status_of reply) ≡ false
    → Some 503 ≡ status_of reply → ⊥
other reply is_not e = false≢true (sym is_not ∙ sym (ap is_unavailable e))

module _ (limits : HeadLimits) (old new : Option (List ℕ)) (before after : ℕ) where
  abbrev Wants : Type 0
  Wants = WantsMemory limits old new before after

  without_post : (fault : PostFault) → HasNoPost limits old new (HasFailed before after) fault
      → Some 503 ≡ status_of (reply_to_fault fault) → Wants
  without_post (Head faults.OutOfMemory) none e = for_head none
  without_post (Head faults.Ended) none e =
      absurd (other (reply_to_fault (Head faults.Ended)) refl e)
  without_post (Head faults.Device) none e =
      absurd (other (reply_to_fault (Head faults.Device)) refl e)
  without_post (Head faults.BadHead) none e =
      absurd (other (reply_to_fault (Head faults.BadHead)) refl e)
  without_post (Head faults.BadLength) none e =
      absurd (other (reply_to_fault (Head faults.BadLength)) refl e)
  without_post (Head faults.BadChunk) none e =
      absurd (other (reply_to_fault (Head faults.BadChunk)) refl e)
  without_post (Head faults.TooLarge) none e =
      absurd (other (reply_to_fault (Head faults.TooLarge)) refl e)
  without_post (Body faults.OutOfMemory) none e = for_body none
  without_post (Body faults.Ended) none e =
      absurd (other (reply_to_fault (Body faults.Ended)) refl e)
  without_post (Body faults.Device) none e =
      absurd (other (reply_to_fault (Body faults.Device)) refl e)
  without_post (Body faults.BadHead) none e =
      absurd (other (reply_to_fault (Body faults.BadHead)) refl e)
  without_post (Body faults.BadLength) none e =
      absurd (other (reply_to_fault (Body faults.BadLength)) refl e)
  without_post (Body faults.BadChunk) none e =
      absurd (other (reply_to_fault (Body faults.BadChunk)) refl e)
  without_post (Body faults.TooLarge) none e =
      absurd (other (reply_to_fault (Body faults.TooLarge)) refl e)

  without_message : (post : HttpPost) → IsPost limits old new (HasFailed before after) post
      → refusal_of post ≡ None → (fault : ReadFault)
      → Some 503 ≡ status_of (Some (reply_to_unread fault)) → Wants
  without_message post is accepted read_faults.OutOfMemory e = for_message post is accepted tt
  without_message post is accepted (read_faults.Wire fault) e =
      absurd (other (Some (reply_to_unread (read_faults.Wire fault))) refl e)
  without_message post is accepted read_faults.BadUtf8 e =
      absurd (other (Some (reply_to_unread read_faults.BadUtf8)) refl e)
  without_message post is accepted read_faults.TooDeep e =
      absurd (other (Some (reply_to_unread read_faults.TooDeep)) refl e)

-- No refusal of a request is 503.
refusals : (found allowed read : Bool)
    → is_unavailable (status_of (if not found then Some (plain_reply statuses.NotFound)
    else if not allowed then Some (plain_reply statuses.MethodNotAllowed)
    else if not read then Some (plain_reply statuses.UnsupportedMediaType)
    else None)) ≡ false
refusals false allowed read = refl
refusals true false read = refl
refusals true true false = refl
refusals true true true = refl

refusal_not : (post : HttpPost) → is_unavailable (status_of (refusal_of post)) ≡ false
refusal_not post =
    refusals (is_for_traces post.target) (bytes_eq post.method (codes "POST"))
    (is_protobuf (field_values post (codes "content-type"))
    && is_plain (field_values post (codes "content-encoding")))

-- Where no reply is canned, 503 is answered only where memory is asked for.
pub unavailable : UnavailableWantsMemory
unavailable limits old new before after written writes request serves =
    let is = serves.status_is in
    elim serves.judges [
      | no_post fault none counts answer without ↦
          without_post limits old new before after fault none (is ∙ ap status_of answer)
      | refused post came quiet refusal why answer without ↦
          absurd (other (refusal_of post) (refusal_not post) (is ∙ ap status_of (answer ∙ sym why)))
      | unread post came quiet accepted fault names answer without ↦
          without_message limits old new before after post came accepted fault
          (is ∙ ap status_of answer)
      | taken post came quiet accepted message reads answer with ↦
          absurd (other (Some (canned_reply None)) refl (is ∙ ap status_of answer))
    ]
