-- What becomes of a request to receive spans: it is answered 200 where its content was kept, byte
-- for byte, and only there. (OTLP Specification, OTLP/HTTP Request and OTLP/HTTP Response)
use Rattle.std.specs.Prelude.{◌≡◌, ◌⊎◌, ℕ, true, false, Bool, List, Option, Some, None, length}
use Rattle.std.specs.Prelude.{◌==◌, ◌&&◌}
use Rattle.std.specs.List.{list_all}
use Rattle.otlp_serve.specs.Posts.{HttpPost}
use Rattle.otlp_receiver.specs.declared.reply.denial.Denial.{Denial}
use Rattle.otlp_receiver.specs.declared.reply.denial.Denial.TheVariants as denials
use Rattle.model_body.specs.Names.{IsReadable, spans_in}
use Rattle.model_message.specs.Messages.{Triple}
use Rattle.otlp_receiver.specs.Posts.{HasContent, IsDenied, IsTurnedAway}
use Rattle.otlp_receiver.specs.Reads.{IsUnread, is_above, room_alone, size_denial}
use Rattle.otlp_receiver.specs.declared.content.Undecoded.TheVariants as undecoded
use Rattle.otlp_receiver.specs.declared.reading.Bounds.{Bounds}
use Rattle.otlp_receiver.specs.declared.reading.Unread.TheVariants as reasons
use Rattle.relay_service.specs.declared.receive.Outcome.{Outcome}
use Rattle.relay_service.specs.declared.receive.Outcome.TheVariants as outcomes

-- A span has a trace id of 16 bytes and a span id of 8. (trace.proto: Span)
abbrev pub has_ids : Triple → Bool
has_ids x = (length x.span.0 == 16) && (length x.span.1.0 == 8)

-- each span of a content has
abbrev pub have_ids : List ℕ → Bool
have_ids content = list_all has_ids (spans_in content)

-- From the first state, what keeps bodies has kept this one, or failed to, and is then so.
abbrev pub Keeping : Type 0 → Type 1
Keeping K = K → List ℕ → K → Type 0

-- What keeps bodies has no room for this one, so.
abbrev pub Lacking : Type 0 → Type 1
Lacking K = K → List ℕ → Type 0

module _ {K : Type 0} (keeps : Keeping K) (lacks_room : Lacking K) (fails : Keeping K)
    (old : K) where
  -- What becomes of a body that is to be kept: it is kept, or it is refused, and then what keeps
  -- bodies is as it was, unless it failed.
  pub data Keeps (body : List ℕ) (outcome : Outcome) (new : K) : Type 0 where
    kept : keeps old body new → outcome ≡ outcomes.Kept → Keeps body outcome new
    full : lacks_room old body → outcome ≡ outcomes.Denied denials.NoRoom → new ≡ old
        → Keeps body outcome new
    no_memory : outcome ≡ outcomes.Denied denials.OutOfMemory → new ≡ old → Keeps body outcome new
    failed : fails old body new → outcome ≡ outcomes.Failed → Keeps body outcome new

  -- What becomes of a content, where this many bytes may still be pending, and reading it may take
  -- `alone` bytes when nothing else is: it was kept together with others, reading it would take
  -- more, now or always, it isn't read, the identifiers of a span have other lengths, or it is a
  -- body that is to be kept.
  pub data ReceivesContent (content : List ℕ) (room alone : ℕ) (outcome : Outcome) (new : K)
      : Type 0 where
    recalled : IsReadable content → keeps old content new → outcome ≡ outcomes.Kept
        → ReceivesContent content room alone outcome new
    no_room : is_above content room ≡ true
        → outcome ≡ outcomes.Denied (size_denial content alone) → new ≡ old
        → ReceivesContent content room alone outcome new
    unread : is_above content room ≡ false → IsUnread content reasons.Fault
        → outcome ≡ outcomes.Denied denials.BadBody → new ≡ old
        → ReceivesContent content room alone outcome new
    no_memory : is_above content room ≡ false → IsUnread content reasons.OutOfMemory
        → outcome ≡ outcomes.Denied denials.OutOfMemory → new ≡ old
        → ReceivesContent content room alone outcome new
    bad_ids : is_above content room ≡ false → IsReadable content → have_ids content ≡ false
        → outcome ≡ outcomes.Denied denials.BadIds → new ≡ old
        → ReceivesContent content room alone outcome new
    read : is_above content room ≡ false → IsReadable content → have_ids content ≡ true
        → Keeps content outcome new
        → ReceivesContent content room alone outcome new

  -- What becomes of a post whose content is within these bounds: it is refused, memory to have its
  -- content was lacking, or its content is received.
  pub data Receives (bounds : Bounds) (post : HttpPost) (room : ℕ) (outcome : Outcome) (new : K)
      : Type 0 where
    denied : (reason : Denial) → IsDenied bounds.max_content post reason
        → outcome ≡ outcomes.Denied reason
        → new ≡ old → Receives bounds post room outcome new
    no_memory : IsTurnedAway bounds.max_content post undecoded.OutOfMemory
        → outcome ≡ outcomes.Denied denials.OutOfMemory → new ≡ old
        → Receives bounds post room outcome new
    received : (content : List ℕ) → HasContent bounds.max_content post content
        → ReceivesContent content room (room_alone bounds.max_pending post.body) outcome new
        → Receives bounds post room outcome new

-- Nothing was changed, or the content of a post was collected, to be kept together with others.
abbrev pub Collects : {K : Type 0} → Keeping K → K → ℕ → HttpPost → K → Type 0
Collects collects_body old most post new = (new ≡ old)
    ⊎ ((content : List ℕ) × HasContent most post content × collects_body old content new)

-- why a post is refused, where it is
abbrev pub denial_of : Outcome → Option Denial
denial_of outcomes.Kept = None
denial_of (outcomes.Denied denial) = Some denial
denial_of outcomes.Failed = Some denials.KeepFailed

-- what keeps bodies has failed
abbrev pub is_failure : Outcome → Bool
is_failure outcomes.Failed = true
is_failure _ = false
