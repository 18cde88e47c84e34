-- No byte after a request that was taken is read.
use Rattle.std.proofs.Common.{◌≡◌, ℕ, List, [], ◌∷◌, ◌++◌, length, sym, ap, subst, ◌∙◌, arith}
use Rattle.std.proofs.Common.{append_assoc, Option, Some, None, Ok}
use Rattle.model_message.specs.Tables
use Rattle.model_message.specs.Tables.{Message}
use Rattle.httparse.specs.Grammar.{print_request}
use Rattle.httparse.proofs.GrammarLemmas.{request_unique}
use Rattle.http_wire.specs.declared.limits.HeadLimits.{HeadLimits}
use Rattle.http_wire.specs.Bodies.{IsBody, request_framing}
use Rattle.http_wire.specs.Devices.{HasFailed}
use Rattle.otlp_http.specs.Request.{request_text}
use Rattle.otlp_serve.specs.declared.reply.PostReply.{PostReply}
use Rattle.otlp_serve.specs.Posts.{HttpPost, IsPost}
use Rattle.otlp_serve.specs.RequestHeads.{request_fields}
use Rattle.otlp_collector.specs.declared.canned.Canned.{Canned}
use Rattle.otlp_collector.specs.Answering.{Judges, no_post, refused, unread, taken}
use Rattle.law_export.specs.Delivery.{BytesAfterAreLeft}
use Rattle.law_export.proofs.Arrived.{known, sends}
use Rattle.law_export.proofs.Sent.{Sends, comes_with, framed, sent_head, traces_at}

-- Bytes that are split after fronts of one length have one rest.
rest_of : (a b c d : List ℕ) → a ++ b ≡ c ++ d → length a ≡ length c → b ≡ d
rest_of [] b [] d e l = e
rest_of [] b (y ∷ c) d e l = absurd (omega (arith, l))
rest_of (x ∷ a) b [] d e l = absurd (omega (arith, l))
rest_of (x ∷ a) b (y ∷ c) d e l =
    let tails : a ++ b ≡ c ++ d = cc in
    rest_of a b c d tails (omega (arith, l))

-- Whatever request the bytes are read as, it leaves the bytes after the request that was sent.
post_leaves : (limits : HeadLimits) (host : List ℕ) (port : ℕ) (body appended left : List ℕ)
    (failed : Type 0) (other : HttpPost)
    → Sends limits host port body
    → IsPost limits (Some (request_text (traces_at host port) body ++ appended))
    (Some left) failed other
    → left ≡ appended
post_leaves limits host port body appended left failed other sent is =
    let own = comes_with limits host port body appended sent in
    let one =
    request_unique (request_text (traces_at host port) body ++ appended)
    (sent_head host port body) is.head (body ++ appended) (is.taken ++ left) (
      own.valid.valid,
      own.comes ∙ append_assoc (print_request (sent_head host port body)) body appended,
    )
    (is.comes.valid.valid, is.comes.comes ∙ append_assoc (print_request is.head) is.taken left) in
    let framing =
    ap (λ h. request_framing (request_fields h)) (sym one.0) ∙ framed limits host port body sent in
    let whole =
    subst (λ f. IsBody f limits is.taken (Some left) failed (Ok other.body)) framing is.body in
    sym (rest_of body appended is.taken left one.1 (sym whole.1))

leaves : (limits : HeadLimits) (host : List ℕ) (port : ℕ) (body appended : List ℕ)
    (new : Option (List ℕ)) (failed : Type 0) (other : HttpPost)
    → Sends limits host port body
    → IsPost limits (Some (request_text (traces_at host port) body ++ appended)) new failed other
    → new ≡ Some appended
leaves limits host port body appended None failed other sent is = absurd is.comes.comes
leaves limits host port body appended (Some left) failed other sent is =
    ap Some (post_leaves limits host port body appended left failed other sent is)

judged_leaves : (limits : HeadLimits) (canned : Option Canned) (host : List ℕ) (port : ℕ)
    (body appended : List ℕ) (new : Option (List ℕ)) (before after : ℕ)
    (reply : Option PostReply) (message : Message Tables.request) → Sends limits host port body
    → Judges limits canned
    (Some (request_text (traces_at host port) body ++ appended)) new before after reply
    (Some message)
    → new ≡ Some appended
judged_leaves limits canned host port body appended new before after reply message sent judges =
    elim judges [
      | no_post fault none counts answer without ↦ absurd cc
      | refused post is quiet refusal why answer without ↦ absurd cc
      | unread post is quiet accepted fault names answer without ↦ absurd cc
      | taken post is quiet accepted read reads answer with ↦
          leaves limits host port body appended new (HasFailed before after) post sent is
    ]

-- Where a request is taken, no byte after it was read.
pub later_left : BytesAfterAreLeft
later_left limits canned address body old new before after written writes status message a serves =
    judged_leaves limits canned address.host address.port body a.appended new before after
    serves.reply message
    (sends limits address body old before after a)
    (subst (λ bytes. Judges limits canned bytes new before after serves.reply (Some message))
    (known limits address body old before after a) serves.judges)
