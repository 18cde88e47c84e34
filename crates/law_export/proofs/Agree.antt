-- Bytes mean one thing.
use Rattle.std.proofs.Common.{◌≡◌, ◌≢◌, ℕ, ◌<◌, List, ◌++◌, length, refl, sym, ap, ◌∙◌, subst}
use Rattle.std.proofs.Common.{arith, append_assoc, inl, inr, ◌⊎◌, Some, Ok, Err}
use Rattle.std.specs.Prelude.{All, codes}
use Rattle.std.specs.List.{flat_map}
use Rattle.httparse.specs.Grammar.{ResponseHead, print_response, status_code, IsResponseHead}
use Rattle.httparse.proofs.GrammarLemmas.{response_unique}
use Rattle.httparse.specs.Spans.{ResponseExceeds}
use Rattle.http_wire.specs.declared.fault.HttpFault.{HttpFault}
use Rattle.http_wire.specs.declared.fault.HttpFault.TheVariants as faults
use Rattle.http_wire.specs.declared.limits.HeadLimits.{HeadLimits}
use Rattle.otlp_http.specs.Replies.{framing_of, HttpReply, IsReply, RefusesHead, HasNoReply}
use Rattle.http_wire.specs.Bodies.{IsBody}
use Rattle.otlp_http.specs.Heads.{fields_of, ComesAfter, IsHeadText, IsInterimStatus}
use Rattle.http_wire.specs.Fields.{values_of, IsTaken}
use Rattle.otlp_http.specs.Waits.{retry_after}
use Rattle.law_export.specs.Meanings.{BytesMeanOneReply, BytesMeanOneFault}
use Rattle.law_export.proofs.Lacks.{Lack, lack_of, lacks_not, lacks_one}
use Rattle.law_export.proofs.BodiesAgree.{body_one}
use Rattle.law_export.proofs.Interims.{Stands, same, first, second, align}

-- The bytes are those of the interim heads, then the text, then what is left.
comes : (limits : HeadLimits) (bytes left : List ℕ) (interims : List ResponseHead) (text : List ℕ)
    → ComesAfter limits (Some bytes) (Some left) interims text
    → bytes ≡ flat_map print_response interims ++ (text ++ left)
comes limits bytes left interims text c =
    c.taken ∙ append_assoc (flat_map print_response interims) text left

-- Two heads at the front of the same bytes are one.
heads : (bytes : List ℕ) (h k : ResponseHead) (r q : List ℕ) → IsResponseHead h → IsResponseHead k
    → bytes ≡ print_response h ++ r → bytes ≡ print_response k ++ q
    → (h ≡ k) × (r ≡ q)
heads bytes h k r q x y e f = response_unique bytes h k r q (x, e) (y, f)

-- No interim head is where a final head is.
final_not : (limits : HeadLimits) (bytes : List ℕ) (head : ResponseHead) (rest : List ℕ)
    → IsResponseHead head → ¬ (IsInterimStatus (status_code head))
    → bytes ≡ print_response head ++ rest → Stands limits bytes → ⊥
final_not limits bytes head rest valid final e stands =
    let one =
    heads bytes stands.head head stands.rest rest stands.interim.0.valid valid stands.whole e in
    final (subst (λ h. IsInterimStatus (status_code h)) one.0 stands.interim.1)

-- why there is no reply, where no read failed and no memory was refused
abbrev Cause : HeadLimits → List ResponseHead → List ℕ → List ℕ → HttpFault → Type 0
Cause limits interims text left fault =
    Lack limits text left fault
    ⊎ ((head : ResponseHead) × IsHeadText limits text head × RefusesHead interims head fault)

cause_of : (limits : HeadLimits) (bytes left : List ℕ) (failed : Type 0) (fault : HttpFault)
    (r : HasNoReply limits (Some bytes) (Some left) failed fault)
    → ¬ failed → fault ≢ faults.OutOfMemory → Cause limits r.interims r.text left fault
cause_of limits bytes left failed fault r sound ample =
    elim r.cause [
      | inl lacks ↦ inl (lack_of limits r.text left failed fault lacks sound ample)
      | inr refuses ↦ inr refuses
    ]

-- A head that is refused is bad: it is one interim head too many, or a field of it can't be kept.
refused : (interims : List ResponseHead) (head : ResponseHead) (fault : HttpFault)
    → RefusesHead interims head fault → fault ≢ faults.OutOfMemory
    → (fault ≡ faults.BadHead)
    × (((length interims ≡ 16) × IsInterimStatus (status_code head))
    ⊎ (¬ (IsInterimStatus (status_code head)) × ¬ (All IsTaken (fields_of head))))
refused interims head faults.BadHead x ample = (refl, x)
refused interims head faults.OutOfMemory x ample = absurd (ample refl)
refused interims head faults.Ended x ample = absurd x
refused interims head faults.Device x ample = absurd x
refused interims head faults.BadLength x ample = absurd x
refused interims head faults.BadChunk x ample = absurd x
refused interims head faults.TooLarge x ample = absurd x

-- A head whose text is within the limits is a whole head.
whole : (limits : HeadLimits) (text : List ℕ) (head : ResponseHead) → IsHeadText limits text head
    → IsHeadText limits (print_response head) head
whole limits text head is = subst (λ t. IsHeadText limits t head) is.whole is

-- No interim head is where there is no reply, if fewer than 16 came before.
cause_not : (limits : HeadLimits) (interims : List ResponseHead) (text left : List ℕ)
    (fault : HttpFault)
    → Cause limits interims text left fault
    → fault ≢ faults.OutOfMemory → length interims < 16 → Stands limits (text ++ left) → ⊥
cause_not limits interims text left fault (inl lack) ample few stands =
    lacks_not limits text left fault stands.head stands.rest lack stands.interim.0 stands.whole
cause_not limits interims text left fault (inr x) ample few stands =
    let one =
    heads
    (text ++ left) stands.head x.0 stands.rest left stands.interim.0.valid x.1.valid stands.whole
    (ap (λ t. t ++ left) x.1.whole) in
    elim (refused interims x.0 fault x.2 ample).1 [
      | inl full ↦ let size = full.0 in omega (arith, size, few)
      | inr other ↦ other.0 (subst (λ h. IsInterimStatus (status_code h)) one.0 stands.interim.1)
    ]

-- The head of a reply is not where there is no reply.
cause_no_reply : (limits : HeadLimits) (interims : List ResponseHead) (text left : List ℕ)
    (fault : HttpFault) (head : ResponseHead) (rest : List ℕ)
    → Cause limits interims text left fault → fault ≢ faults.OutOfMemory
    → IsHeadText limits (print_response head) head → ¬ (IsInterimStatus (status_code head))
    → All IsTaken (fields_of head) → text ++ left ≡ print_response head ++ rest → ⊥
cause_no_reply limits interims text left fault head rest (inl lack) ample is final kept e =
    lacks_not limits text left fault head rest lack is e
cause_no_reply limits interims text left fault head rest (inr x) ample is final kept e =
    let one =
    heads (text ++ left) x.0 head left rest x.1.valid is.valid (ap (λ t. t ++ left) x.1.whole) e in
    elim (refused interims x.0 fault x.2 ample).1 [
      | inl full ↦ final (subst (λ h. IsInterimStatus (status_code h)) one.0 full.1)
      | inr other ↦ other.1 (subst (λ h. All IsTaken (fields_of h)) (sym one.0) kept)
    ]

-- ---- a reply

reply_and_reply : (limits : HeadLimits) (bytes left other_left : List ℕ)
    (failed other_failed : Type 0) (reply other : HttpReply)
    → IsReply limits (Some bytes) (Some left) failed reply
    → IsReply limits (Some bytes) (Some other_left) other_failed other
    → ¬ failed → ¬ other_failed → reply.body ≢ Err faults.OutOfMemory
    → other.body ≢ Err faults.OutOfMemory → other ≡ reply
reply_and_reply limits bytes left other_left failed other_failed reply other r q sound other_sound
    ample other_ample =
    let own = append_assoc (print_response r.head) r.taken left in
    let others = append_assoc (print_response q.head) q.taken other_left in
    elim (align limits r.interims q.interims _ _ r.comes.each q.comes.each
    (sym (comes limits bytes left r.interims _ r.comes)
    ∙ comes limits bytes other_left q.interims _ q.comes)) [
      | first _ stands ↦ absurd (final_not limits _ r.head _ r.valid.valid r.final own stands)
      | second _ stands ↦ absurd (final_not limits _ q.head _ q.valid.valid q.final others stands)
      | same _ e ↦
          let one = heads _ r.head q.head _ _ r.valid.valid q.valid.valid own (e ∙ others) in
          let status : other.status ≡ reply.status =
          q.status ∙ ap status_code (sym one.0) ∙ sym r.status in
          let wait : other.retry_after ≡ reply.retry_after =
          q.wait ∙ ap (λ h. retry_after (values_of (codes "retry-after") (fields_of h))) (sym one.0)
          ∙ sym r.wait in
          let body =
          subst (λ h. IsBody (framing_of (status_code h) (fields_of h)) limits q.taken
          (Some other_left) other_failed other.body)
          (sym one.0) q.body in
          let bodies =
          body_one _ limits r.taken left q.taken other_left failed other_failed reply.body
          other.body r.body body sound other_sound ample other_ample one.1 in
          λ i. record { status = status i; retry_after = wait i; body = bodies i }
    ]

reply_and_fault : (limits : HeadLimits) (bytes left other_left : List ℕ)
    (failed other_failed : Type 0) (reply : HttpReply) (fault : HttpFault)
    → IsReply limits (Some bytes) (Some left) failed reply
    → HasNoReply limits (Some bytes) (Some other_left) other_failed fault
    → ¬ other_failed → fault ≢ faults.OutOfMemory → ⊥
reply_and_fault limits bytes left other_left failed other_failed reply fault r q sound ample =
    let own = append_assoc (print_response r.head) r.taken left in
    let cause = cause_of limits bytes other_left other_failed fault q sound ample in
    elim (align limits r.interims q.interims _ _ r.comes.each q.comes.each
    (sym (comes limits bytes left r.interims _ r.comes)
    ∙ comes limits bytes other_left q.interims _ q.comes)) [
      | first _ stands ↦ final_not limits _ r.head _ r.valid.valid r.final own stands
      | second fewer stands ↦
          let few = r.comes.few in
          cause_not limits q.interims q.text other_left fault cause ample
          (omega (arith, fewer, few)) stands
      | same _ e ↦
          cause_no_reply limits q.interims q.text other_left fault r.head _ cause ample r.valid
          r.final r.kept
          (sym e ∙ own)
    ]

-- Bytes that mean a reply mean nothing else.
pub one_reply : BytesMeanOneReply
one_reply limits bytes reply (Ok other) x y =
    ap Ok
    (reply_and_reply limits bytes x.left y.left _ _ reply other x.means y.means x.sound y.sound
    x.ample y.ample)
one_reply limits bytes reply (Err fault) x y =
    absurd
    (reply_and_fault limits bytes x.left y.left _ _ reply fault x.means y.means y.sound y.ample)

-- ---- none

causes : (limits : HeadLimits) (interims : List ResponseHead)
    (text left other_text other_left : List ℕ) (fault other : HttpFault)
    → Cause limits interims text left fault → Cause limits interims other_text other_left other
    → fault ≢ faults.OutOfMemory → other ≢ faults.OutOfMemory
    → text ++ left ≡ other_text ++ other_left
    → ((over : List ℕ) (rest : List ℕ) → over ++ rest ≡ text ++ left
    → ¬ (ResponseExceeds limits.fields over))
    → other ≡ fault
causes limits interims text left other_text other_left fault other (inl x)
    (inl y) ample other_ample e few =
    lacks_one limits text left other_text other_left fault other x y e (few text left refl)
    (few other_text other_left (sym e))
causes limits interims text left other_text other_left fault other (inl x)
    (inr y) ample other_ample e few =
    absurd (lacks_not limits text left fault y.0 other_left x (whole limits other_text y.0 y.1)
    (e ∙ ap (λ t. t ++ other_left) y.1.whole))
causes limits interims text left other_text other_left fault other (inr x)
    (inl y) ample other_ample e few =
    absurd (lacks_not limits other_text other_left other x.0 left y (whole limits text x.0 x.1)
    (sym e ∙ ap (λ t. t ++ left) x.1.whole))
causes limits interims text left other_text other_left fault other (inr x)
    (inr y) ample other_ample e few =
    (refused interims y.0 other y.2 other_ample).0 ∙ sym (refused interims x.0 fault x.2 ample).0

-- Bytes that mean no reply do so for one cause, unless a head has too many fields.
pub one_fault : BytesMeanOneFault
one_fault limits bytes fault other x y few =
    let r = x.means in
    let q = y.means in
    let own = comes limits bytes x.left r.interims r.text r.comes in
    let others = comes limits bytes y.left q.interims q.text q.comes in
    let cause = cause_of limits bytes x.left _ fault r x.sound x.ample in
    let other_cause = cause_of limits bytes y.left _ other q y.sound y.ample in
    let most = r.comes.few in
    let other_most = q.comes.few in
    elim (align limits r.interims q.interims _ _ r.comes.each q.comes.each (sym own ∙ others)) [
      | first fewer stands ↦
          absurd (cause_not limits r.interims r.text x.left fault cause x.ample
          (omega (arith, fewer, other_most)) stands)
      | second fewer stands ↦
          absurd (cause_not limits q.interims q.text y.left other other_cause y.ample
          (omega (arith, fewer, most)) stands)
      | same is e ↦
          causes limits r.interims r.text x.left q.text y.left fault other cause
          (subst (λ interims. Cause limits interims q.text y.left other) (sym is) other_cause)
          x.ample y.ample e
          (λ over rest whole many. few (record {
            interims = r.interims;
            text = over;
            rest = rest;
            each = r.comes.each;
            whole = own ∙ ap (λ t. flat_map print_response r.interims ++ t) (sym whole);
            many = many;
          }))
    ]
