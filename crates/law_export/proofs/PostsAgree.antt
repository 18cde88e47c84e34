-- Bytes that are a request are nothing else.
use Rattle.std.proofs.Common.{◌≡◌, ◌≢◌, ℕ, List, ◌++◌, refl, inl, inr, sym, ap, ◌∙◌, subst, arith}
use Rattle.std.proofs.Common.{append-nil, append_assoc, Some, Ok, Err}
use Rattle.std.specs.Prelude.{All}
use Rattle.httparse.specs.Grammar.{RequestHead, IsRequestHead, print_request}
use Rattle.httparse.proofs.GrammarLemmas.{request_unique}
use Rattle.http_wire.specs.declared.fault.HttpFault.{HttpFault}
use Rattle.http_wire.specs.declared.fault.HttpFault.TheVariants as faults
use Rattle.http_wire.specs.declared.limits.HeadLimits.{HeadLimits}
use Rattle.http_wire.specs.Bodies.{request_framing, IsBody}
use Rattle.http_wire.specs.Fields.{values_of, IsTaken, RefusesFields}
use Rattle.otlp_serve.specs.declared.fault.PostFault.TheVariants.{Head, Body}
use Rattle.otlp_serve.specs.Posts.{HttpPost, IsPost, HasNoPostHead, HasNoPostBody}
use Rattle.otlp_serve.specs.RequestHeads.{request_fields, IsRequestText, LacksRequest}
use Rattle.law_export.specs.Requests.{BytesMeanOnePost, IsSamePost}
use Rattle.law_export.proofs.BodiesAgree.{body_one}
use Rattle.law_export.proofs.Lacks.{front_of}
use Rattle.law_export.proofs.PostFields.{exceeds_not}

-- No request's head is where no head came.
pub lacks_not : (limits : HeadLimits) (text left : List ℕ) (failed : Type 0) (fault : HttpFault)
    (head : RequestHead) (rest : List ℕ)
    → LacksRequest limits text (Some left) failed fault → ¬ failed → fault ≢ faults.OutOfMemory
    → IsRequestText limits (print_request head) head → text ++ left ≡ print_request head ++ rest → ⊥
lacks_not limits text left failed faults.Ended head rest x sound ample is e =
    x.1.0 head rest (is.valid, sym (append-nil text) ∙ ap (λ l. text ++ l) (sym x.0) ∙ e)
lacks_not limits text left failed faults.Device head rest x sound ample is e = sound x.0
lacks_not limits text left failed faults.BadHead head rest x sound ample is e =
    x.0 left head rest (is.valid, e)
lacks_not limits text left failed faults.TooLarge head rest x sound ample is e = elim x.1 [
  | inl long ↦
      let bytes = is.bytes in
      let size = long.1 in
      let front = front_of text left (print_request head) rest e (omega (arith, bytes, size)) in
      long.0.0 head front.0 (is.valid, front.1)
  | inr over ↦ exceeds_not limits.fields text left head rest over (is.valid, e) is.fields
]
lacks_not limits text left failed faults.OutOfMemory head rest x sound ample is e = ample refl
lacks_not limits text left failed faults.BadLength head rest x sound ample is e = x
lacks_not limits text left failed faults.BadChunk head rest x sound ample is e = x

-- Fields that can be kept aren't refused.
pub refuses_not : (limits : HeadLimits) (head : RequestHead) (fault : HttpFault)
    → RefusesFields (request_fields head) fault
    → fault ≢ faults.OutOfMemory → All IsTaken (request_fields head) → ⊥
refuses_not limits head faults.BadHead x ample kept = x kept
refuses_not limits head faults.OutOfMemory x ample kept = ample refl
refuses_not limits head faults.Ended x ample kept = x
refuses_not limits head faults.Device x ample kept = x
refuses_not limits head faults.BadLength x ample kept = x
refuses_not limits head faults.BadChunk x ample kept = x
refuses_not limits head faults.TooLarge x ample kept = x

-- Two heads of requests at the front of the same bytes are one.
pub heads : (bytes : List ℕ) (h k : RequestHead) (taken left other_taken other_left : List ℕ)
    → IsRequestHead h → IsRequestHead k
    → bytes ≡ (print_request h ++ taken) ++ left
    → bytes ≡ (print_request k ++ other_taken) ++ other_left
    → (h ≡ k) × (taken ++ left ≡ other_taken ++ other_left)
heads bytes h k taken left other_taken other_left x y e f =
    request_unique bytes h k _ _ (x, e ∙ append_assoc (print_request h) taken left)
    (y, f ∙ append_assoc (print_request k) other_taken other_left)

post_and_head : (limits : HeadLimits) (bytes left other_left : List ℕ)
    (failed other_failed : Type 0) (post : HttpPost) (fault : HttpFault)
    → IsPost limits (Some bytes) (Some left) failed post
    → HasNoPostHead limits (Some bytes) (Some other_left) other_failed fault
    → ¬ other_failed → fault ≢ faults.OutOfMemory → ⊥
post_and_head limits bytes left other_left failed other_failed post fault r q sound ample =
    let own = r.comes.comes ∙ append_assoc (print_request r.head) r.taken left in
    let valid = r.comes.valid in
    elim q.cause [
      | inl lacks ↦
          lacks_not limits q.text other_left other_failed fault r.head _ lacks sound ample valid
          (sym q.taken ∙ own)
      | inr x ↦
          let one =
          request_unique bytes r.head x.0 _ other_left (valid.valid, own)
          (x.1.valid, q.taken ∙ ap (λ t. t ++ other_left) x.1.whole) in
          refuses_not limits x.0 fault x.2 ample
          (subst (λ h. All IsTaken (request_fields h)) one.0 r.comes.kept)
    ]

post_and_body : (limits : HeadLimits) (bytes left other_left : List ℕ)
    (failed other_failed : Type 0) (post : HttpPost) (fault : HttpFault)
    → IsPost limits (Some bytes) (Some left) failed post
    → HasNoPostBody limits (Some bytes) (Some other_left) other_failed fault
    → ¬ failed → ¬ other_failed → fault ≢ faults.OutOfMemory → ⊥
post_and_body limits bytes left other_left failed other_failed post fault r q sound other_sound
    ample =
    let one =
    heads bytes r.head q.head r.taken left q.taken other_left r.comes.valid.valid
    q.comes.valid.valid r.comes.comes q.comes.comes in
    let body =
    subst (λ h. IsBody (request_framing (request_fields h)) limits q.taken
    (Some other_left) other_failed (Err fault))
    (sym one.0) q.body in
    let never =
    body_one _ limits r.taken left q.taken other_left failed other_failed (Ok post.body)
    (Err fault) r.body body sound other_sound (λ e. absurd cc) (λ e. ample cc) one.1 in
    absurd cc

post_and_post : (limits : HeadLimits) (bytes left other_left : List ℕ)
    (failed other_failed : Type 0) (post other : HttpPost)
    → IsPost limits (Some bytes) (Some left) failed post
    → IsPost limits (Some bytes) (Some other_left) other_failed other
    → ¬ failed → ¬ other_failed → IsSamePost post other
post_and_post limits bytes left other_left failed other_failed post other r q sound other_sound =
    let one =
    heads bytes r.head q.head r.taken left q.taken other_left r.comes.valid.valid
    q.comes.valid.valid r.comes.comes q.comes.comes in
    let body =
    subst (λ h. IsBody (request_framing (request_fields h)) limits q.taken
    (Some other_left) other_failed (Ok other.body))
    (sym one.0) q.body in
    let bodies =
    body_one _ limits r.taken left q.taken other_left failed other_failed (Ok post.body)
    (Ok other.body) r.body body sound other_sound (λ e. absurd cc) (λ e. absurd cc) one.1 in
    record {
      method = q.method ∙ ap (λ (h : RequestHead). h.method) (sym one.0) ∙ sym r.method;
      target = q.target ∙ ap (λ (h : RequestHead). h.target) (sym one.0) ∙ sym r.target;
      fields =
          λ name. q.fields.values name ∙ ap (λ h. values_of name (request_fields h)) (sym one.0)
          ∙ sym (r.fields.values name);
      body = cc;
    }

-- Bytes that mean a request mean nothing else.
pub one_post : BytesMeanOnePost
one_post limits bytes post (Ok other) x y =
    post_and_post limits bytes x.left y.left _ _ post other x.means y.means x.sound y.sound
one_post limits bytes post (Err (Head fault)) x y =
    post_and_head limits bytes x.left y.left _ _ post fault x.means y.means y.sound y.ample
one_post limits bytes post (Err (Body fault)) x y =
    post_and_body limits bytes x.left y.left _ _ post fault x.means y.means x.sound y.sound y.ample
