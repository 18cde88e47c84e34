-- Bytes that are no request are none for one cause.
use Rattle.std.proofs.Common.{◌≡◌, ◌≢◌, ℕ, ◌+◌, ◌<◌, ◌≤◌, ◌⊎◌, List, [], ◌++◌, length, refl, inl}
use Rattle.std.proofs.Common.{inr, sym, ap, ◌∙◌, subst, arith, append-nil, append_assoc}
use Rattle.std.proofs.Common.{length-append, Some, Err}
use Rattle.std.specs.Prelude.{All}
use Rattle.httparse.specs.Grammar.{RequestHead, print_request, NeverHasRequest}
use Rattle.httparse.specs.Spans.{RequestExceeds}
use Rattle.http_wire.specs.declared.fault.HttpFault.{HttpFault}
use Rattle.http_wire.specs.declared.fault.HttpFault.TheVariants as faults
use Rattle.http_wire.specs.declared.limits.HeadLimits.{HeadLimits}
use Rattle.http_wire.specs.Bodies.{request_framing, IsBody}
use Rattle.http_wire.specs.Fields.{IsTaken, RefusesFields}
use Rattle.otlp_serve.specs.declared.fault.PostFault.TheVariants.{Head, Body}
use Rattle.otlp_serve.specs.Posts.{HasNoPostHead, HasNoPostBody}
use Rattle.otlp_serve.specs.RequestHeads.{request_fields, IsRequestText, IsUnfinishedRequest}
use Rattle.otlp_serve.specs.RequestHeads.{LacksRequest}
use Rattle.law_export.specs.Requests.{BytesMeanOnePostFault, HasManyRequestFields, StopsInBadTarget}
use Rattle.law_export.proofs.BodiesAgree.{body_one}
use Rattle.law_export.proofs.Lacks.{front_of}
use Rattle.law_export.proofs.PostsAgree.{lacks_not, refuses_not, heads}

-- Why no head came, where no read failed and no memory was refused.
data Lack (limits : HeadLimits) (text left : List ℕ) (fault : HttpFault) : Type 0 where
  ended : fault ≡ faults.Ended → left ≡ [] → IsUnfinishedRequest text → length text < limits.head
      → Lack limits text left fault
  bad : fault ≡ faults.BadHead → NeverHasRequest text → length text ≤ limits.head
      → Lack limits text left fault
  long : fault ≡ faults.TooLarge → IsUnfinishedRequest text → length text ≡ limits.head
      → Lack limits text left fault
  many : fault ≡ faults.TooLarge → RequestExceeds limits.fields text → Lack limits text left fault

lack_of : (limits : HeadLimits) (text left : List ℕ) (failed : Type 0) (fault : HttpFault)
    → LacksRequest limits text (Some left) failed fault
    → ¬ failed → fault ≢ faults.OutOfMemory → Lack limits text left fault
lack_of limits text left failed faults.Ended x sound ample = ended refl x.0 x.1 x.2
lack_of limits text left failed faults.Device x sound ample = absurd (sound x.0)
lack_of limits text left failed faults.BadHead x sound ample = bad refl x.0 x.1
lack_of limits text left failed faults.TooLarge x sound ample =
    elim x.1 [ inl none ↦ long refl none.0 none.1 | inr over ↦ many refl over ]
lack_of limits text left failed faults.OutOfMemory x sound ample = absurd (ample refl)
lack_of limits text left failed faults.BadLength x sound ample = absurd x
lack_of limits text left failed faults.BadChunk x sound ample = absurd x

sizes : (a b c d : List ℕ) → a ++ b ≡ c ++ d → length a + length b ≡ length c + length d
sizes a b c d same = sym (length-append a b) ∙ ap length same ∙ length-append c d

longer : (a b c d : List ℕ) → b ≡ [] → a ++ b ≡ c ++ d → length c ≤ length a
longer a b c d none same =
    let count = sizes a b c d same in let empty = ap length none in omega (arith, count, empty)

-- A text that goes on after a front that can't begin a head can't begin one either.
goes_on : (a b c d : List ℕ) → a ++ b ≡ c ++ d → length a ≤ length c → NeverHasRequest a
    → NeverHasRequest c
goes_on a b c d same shorter never more head rest reads =
    let front = front_of c d a b (sym same) shorter in
    never (front.0 ++ more) head rest
    (reads.0, sym (append_assoc a front.0 more) ∙ ap (λ t. t ++ more) (sym front.1) ∙ reads.1)

-- A text that may become a head has no front that can't, unless it stops in a bad target.
bad_not : (limits : HeadLimits) (a b c d : List ℕ) → a ++ b ≡ c ++ d → length a ≤ length c
    → NeverHasRequest a → IsUnfinishedRequest c
    → (d ≡ []) ⊎ (length c ≡ limits.head) → ¬ (StopsInBadTarget limits (a ++ b)) → ⊥
bad_not limits a b c d same shorter never unfinished stops whole = elim unfinished.1 [
  | inl more ↦ goes_on a b c d same shorter never more.0 more.1 [] more.2
  | inr inside ↦
      whole (record {
        text = c;
        rest = d;
        whole = same;
        stops = stops;
        inside = inside;
        never = goes_on a b c d same shorter never;
      })
]

-- The same bytes lack a head for one cause.
lacks_one : (limits : HeadLimits) (text left other_text other_left : List ℕ)
    (fault other : HttpFault)
    → Lack limits text left fault → Lack limits other_text other_left other
    → text ++ left ≡ other_text ++ other_left
    → ¬ (RequestExceeds limits.fields text) → ¬ (RequestExceeds limits.fields other_text)
    → ¬ (StopsInBadTarget limits (text ++ left))
    → ¬ (StopsInBadTarget limits (other_text ++ other_left)) → other ≡ fault
lacks_one limits text left other_text other_left fault other x y e few fewer whole other_whole =
    elim x [
      | many _ over ↦ absurd (few over)
      | ended is none unfinished short ↦ elim y [
        | many _ over ↦ absurd (fewer over)
        | ended also _ _ _ ↦ also ∙ sym is
        | bad _ never _ ↦
            absurd (bad_not limits other_text other_left text left (sym e)
            (longer text left other_text other_left none e) never unfinished (inl none) other_whole)
        | long _ _ size ↦
            let count = sizes text left other_text other_left e in
            let empty = ap length none in
            absurd (omega (arith, count, empty, short, size))
      ]
      | bad is never size ↦ elim y [
        | many _ over ↦ absurd (fewer over)
        | ended _ none unfinished _ ↦
            absurd (bad_not limits text left other_text other_left e
            (longer other_text other_left text left none (sym e)) never unfinished (inl none) whole)
        | bad also _ _ ↦ also ∙ sym is
        | long _ unfinished other_size ↦
            absurd (bad_not limits text left other_text other_left e
            (omega (arith, size, other_size)) never unfinished (inr other_size) whole)
      ]
      | long is unfinished size ↦ elim y [
        | many _ over ↦ absurd (fewer over)
        | ended _ none _ short ↦
            let count = sizes text left other_text other_left e in
            let empty = ap length none in
            absurd (omega (arith, count, empty, short, size))
        | bad _ never other_size ↦
            absurd (bad_not limits other_text other_left text left (sym e)
            (omega (arith, size, other_size)) never unfinished (inr size) other_whole)
        | long also _ _ ↦ also ∙ sym is
      ]
    ]

-- A head whose fields are refused is bad.
refused : (head : RequestHead) (fault : HttpFault) → RefusesFields (request_fields head) fault
    → fault ≢ faults.OutOfMemory → fault ≡ faults.BadHead
refused head faults.BadHead x ample = refl
refused head faults.OutOfMemory x ample = absurd (ample refl)
refused head faults.Ended x ample = absurd x
refused head faults.Device x ample = absurd x
refused head faults.BadLength x ample = absurd x
refused head faults.BadChunk x ample = absurd x
refused head faults.TooLarge x ample = absurd x

-- A head whose text is within the limits is a whole head.
whole_text : (limits : HeadLimits) (text : List ℕ) (head : RequestHead)
    → IsRequestText limits text head → IsRequestText limits (print_request head) head
whole_text limits text head is = subst (λ t. IsRequestText limits t head) is.whole is

head_and_head : (limits : HeadLimits) (bytes left other_left : List ℕ)
    (failed other_failed : Type 0) (fault other : HttpFault)
    → HasNoPostHead limits (Some bytes) (Some left) failed fault
    → HasNoPostHead limits (Some bytes) (Some other_left) other_failed other
    → ¬ failed → ¬ other_failed → fault ≢ faults.OutOfMemory → other ≢ faults.OutOfMemory
    → ¬ (HasManyRequestFields limits bytes) → ¬ (StopsInBadTarget limits bytes) → other ≡ fault
head_and_head limits bytes left other_left failed other_failed fault other r q sound other_sound
    ample other_ample few whole =
    let same = sym r.taken ∙ q.taken in
    elim r.cause [
      | inl lacks ↦ elim q.cause [
        | inl other_lacks ↦
            lacks_one limits r.text left q.text other_left fault other
            (lack_of limits r.text left failed fault lacks sound ample)
            (lack_of limits q.text other_left other_failed other other_lacks other_sound
            other_ample)
            same
            (λ many. few (record { text = r.text; rest = left; whole = r.taken; many = many }))
            (λ many.
            few (record { text = q.text; rest = other_left; whole = q.taken; many = many }))
            (λ stops. whole (subst (StopsInBadTarget limits) (sym r.taken) stops))
            (λ stops. whole (subst (StopsInBadTarget limits) (sym q.taken) stops))
        | inr y ↦
            absurd (lacks_not limits r.text left failed fault y.0 other_left lacks sound ample
            (whole_text limits q.text y.0 y.1)
            (same ∙ ap (λ t. t ++ other_left) y.1.whole))
      ]
      | inr x ↦ elim q.cause [
        | inl other_lacks ↦
            absurd (lacks_not limits q.text other_left other_failed other x.0 left other_lacks
            other_sound other_ample
            (whole_text limits r.text x.0 x.1)
            (sym same ∙ ap (λ t. t ++ left) x.1.whole))
        | inr y ↦ refused y.0 other y.2 other_ample ∙ sym (refused x.0 fault x.2 ample)
      ]
    ]

-- Bytes whose head has a fault don't have a head whose body has one.
head_and_body : (limits : HeadLimits) (bytes left other_left : List ℕ)
    (failed other_failed : Type 0) (fault other : HttpFault)
    → HasNoPostHead limits (Some bytes) (Some left) failed fault
    → HasNoPostBody limits (Some bytes) (Some other_left) other_failed other
    → ¬ failed → fault ≢ faults.OutOfMemory → ⊥
head_and_body limits bytes left other_left failed other_failed fault other r q sound ample =
    let whole = q.comes.comes ∙ append_assoc (print_request q.head) q.taken other_left in
    let valid = q.comes.valid in
    elim r.cause [
      | inl lacks ↦
          lacks_not limits r.text left failed fault q.head _ lacks sound ample valid
          (sym r.taken ∙ whole)
      | inr x ↦
          let one =
          heads bytes q.head x.0 q.taken other_left [] left valid.valid x.1.valid q.comes.comes
          (r.taken ∙ ap (λ t. t ++ left) (x.1.whole ∙ sym (append-nil (print_request x.0)))) in
          refuses_not limits x.0 fault x.2 ample
          (subst (λ h. All IsTaken (request_fields h)) one.0 q.comes.kept)
    ]

body_and_body : (limits : HeadLimits) (bytes left other_left : List ℕ)
    (failed other_failed : Type 0) (fault other : HttpFault)
    → HasNoPostBody limits (Some bytes) (Some left) failed fault
    → HasNoPostBody limits (Some bytes) (Some other_left) other_failed other
    → ¬ failed → ¬ other_failed → fault ≢ faults.OutOfMemory → other ≢ faults.OutOfMemory
    → other ≡ fault
body_and_body limits bytes left other_left failed other_failed fault other r q sound other_sound
    ample other_ample =
    let one =
    heads bytes r.head q.head r.taken left q.taken other_left r.comes.valid.valid
    q.comes.valid.valid r.comes.comes q.comes.comes in
    let body =
    subst (λ h. IsBody (request_framing (request_fields h)) limits q.taken
    (Some other_left) other_failed (Err other))
    (sym one.0) q.body in
    let bodies =
    body_one _ limits r.taken left q.taken other_left failed other_failed (Err fault)
    (Err other) r.body body sound other_sound (λ e. ample cc) (λ e. other_ample cc) one.1 in
    cc

-- Bytes that mean no request do so for one cause, but for two cases where either may be reported.
pub one_post_fault : BytesMeanOnePostFault
one_post_fault limits bytes (Head fault) (Head other) x y few whole =
    ap Head
    (head_and_head limits bytes x.left y.left _ _ fault other x.means y.means x.sound y.sound
    x.ample y.ample few whole)
one_post_fault limits bytes (Head fault) (Body other) x y few whole =
    absurd
    (head_and_body limits bytes x.left y.left _ _ fault other x.means y.means x.sound x.ample)
one_post_fault limits bytes (Body fault) (Head other) x y few whole =
    absurd
    (head_and_body limits bytes y.left x.left _ _ other fault y.means x.means y.sound y.ample)
one_post_fault limits bytes (Body fault) (Body other) x y few whole =
    ap Body
    (body_and_body limits bytes x.left y.left _ _ fault other x.means y.means x.sound y.sound
    x.ample y.ample)
