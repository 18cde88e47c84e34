-- Why no head came, and that no head is there then.
use Rattle.std.proofs.Common.{◌≡◌, ◌≢◌, ℕ, ◌+◌, ◌<◌, ◌≤◌, List, [], ◌∷◌, ◌++◌, length, refl, sym}
use Rattle.std.proofs.Common.{ap, ◌∙◌, arith, append-nil, append_assoc, length-append, inl, inr}
use Rattle.std.proofs.Common.{Some}
use Rattle.httparse.specs.Grammar.{ResponseHead, print_response, NeverHasResponse}
use Rattle.httparse.specs.Spans.{ResponseExceeds}
use Rattle.http_wire.specs.declared.fault.HttpFault.{HttpFault}
use Rattle.http_wire.specs.declared.fault.HttpFault.TheVariants as faults
use Rattle.http_wire.specs.declared.limits.HeadLimits.{HeadLimits}
use Rattle.otlp_http.specs.Heads.{IsHeadText, IsUnfinished, LacksHead}
use Rattle.law_export.proofs.Fields.{exceeds_not}

-- Why no head came, where no read failed and no memory was refused.
pub data Lack (limits : HeadLimits) (text left : List ℕ) (fault : HttpFault) : Type 0 where
  ended : fault ≡ faults.Ended → left ≡ [] → IsUnfinished text → length text < limits.head
      → Lack limits text left fault
  bad : fault ≡ faults.BadHead → NeverHasResponse text → length text ≤ limits.head
      → Lack limits text left fault
  long : fault ≡ faults.TooLarge → IsUnfinished text → length text ≡ limits.head
      → Lack limits text left fault
  many : fault ≡ faults.TooLarge → ResponseExceeds limits.fields text → Lack limits text left fault

-- A head lacks for one of four causes, where no read failed and no memory was refused.
pub lack_of : (limits : HeadLimits) (text left : List ℕ) (failed : Type 0) (fault : HttpFault)
    → LacksHead limits text (Some left) failed fault
    → ¬ failed → fault ≢ faults.OutOfMemory → Lack limits text left fault
lack_of limits text left failed faults.Ended x sound ample = ended refl x.0 x.1 x.2
lack_of limits text left failed faults.Device x sound ample = absurd (sound x.0)
lack_of limits text left failed faults.BadHead x sound ample = bad refl x.0 x.1
lack_of limits text left failed faults.TooLarge x sound ample =
    elim x.1 [ inl none ↦ long refl none.0 none.1 | inr over ↦ many refl over ]
lack_of limits text left failed faults.OutOfMemory x sound ample = absurd (ample refl)
lack_of limits text left failed faults.BadLength x sound ample = absurd x
lack_of limits text left failed faults.BadChunk x sound ample = absurd x

-- The shorter of two fronts of the same bytes begins the other.
pub front_of : (a b p q : List ℕ) → a ++ b ≡ p ++ q → length p ≤ length a
    → (more : List ℕ) × (a ≡ p ++ more)
front_of a b [] q e l = (a, refl)
front_of [] b (x ∷ p) q e l = absurd (omega (arith, l))
front_of (y ∷ a) b (x ∷ p) q e l =
    let heads : y ≡ x = cc in
    let tails : a ++ b ≡ p ++ q = cc in
    let rest = front_of a b p q tails (omega (arith, l)) in
    (rest.0, let is = rest.1 in cc)

-- No head is where no head came.
pub lacks_not : (limits : HeadLimits) (text left : List ℕ) (fault : HttpFault) (head : ResponseHead)
    (rest : List ℕ)
    → Lack limits text left fault → IsHeadText limits (print_response head) head
    → text ++ left ≡ print_response head ++ rest → ⊥
lacks_not limits text left fault head rest lack is e = elim lack [
  | ended _ none unfinished _ ↦
      unfinished.0 head rest (is.valid, sym (append-nil text) ∙ ap (λ l. text ++ l) (sym none) ∙ e)
  | bad _ never _ ↦ never left head rest (is.valid, e)
  | long _ unfinished size ↦
      let bytes = is.bytes in
      let front = front_of text left (print_response head) rest e (omega (arith, bytes, size)) in
      unfinished.0 head front.0 (is.valid, front.1)
  | many _ over ↦ exceeds_not limits.fields text left head rest over (is.valid, e) is.fields
]

-- The same bytes lack a head for one cause, but for one with too many fields.
pub lacks_one : (limits : HeadLimits) (text left other_text other_left : List ℕ)
    (fault other : HttpFault)
    → Lack limits text left fault → Lack limits other_text other_left other
    → text ++ left ≡ other_text ++ other_left
    → ¬ (ResponseExceeds limits.fields text) → ¬ (ResponseExceeds limits.fields other_text)
    → other ≡ fault
lacks_one limits text left other_text other_left fault other x y e few fewer = elim x [
  | many _ over ↦ absurd (few over)
  | ended is none unfinished short ↦ elim y [
    | many _ over ↦ absurd (fewer over)
    | ended also _ _ _ ↦ also ∙ sym is
    | bad _ never _ ↦
        absurd (bad_not other_text other_left text left (sym e)
        (longer text left other_text other_left none e) never unfinished)
    | long _ _ size ↦
        let count = sizes text left other_text other_left e in
        let empty = ap length none in
        absurd (omega (arith, count, empty, short, size))
  ]
  | bad is never size ↦ elim y [
    | many _ over ↦ absurd (fewer over)
    | ended _ none unfinished _ ↦
        absurd (bad_not text left other_text other_left e
        (longer other_text other_left text left none (sym e)) never unfinished)
    | bad also _ _ ↦ also ∙ sym is
    | long _ unfinished other_size ↦
        absurd (bad_not text left other_text other_left e
        (omega (arith, size, other_size)) never unfinished)
  ]
  | long is unfinished size ↦ elim y [
    | many _ over ↦ absurd (fewer over)
    | ended _ none _ short ↦
        let count = sizes text left other_text other_left e in
        let empty = ap length none in
        absurd (omega (arith, count, empty, short, size))
    | bad _ never other_size ↦
        absurd (bad_not other_text other_left text left (sym e)
        (omega (arith, size, other_size)) never unfinished)
    | long also _ _ ↦ also ∙ sym is
  ]
]
  where
    sizes : (a b c d : List ℕ) → a ++ b ≡ c ++ d → length a + length b ≡ length c + length d
    sizes a b c d same = sym (length-append a b) ∙ ap length same ∙ length-append c d

    longer : (a b c d : List ℕ) → b ≡ [] → a ++ b ≡ c ++ d → length c ≤ length a
    longer a b c d none same =
        let count = sizes a b c d same in let empty = ap length none in omega (arith, count, empty)

    bad_not : (a b c d : List ℕ) → a ++ b ≡ c ++ d → length a ≤ length c → NeverHasResponse a
        → IsUnfinished c → ⊥
    bad_not a b c d same shorter never unfinished =
        let front = front_of c d a b (sym same) shorter in
        let more = unfinished.1 in
        never (front.0 ++ more.0) more.1 [] (
          more.2.0,
          sym (append_assoc a front.0 more.0) ∙ ap (λ t. t ++ more.0) (sym front.1) ∙ more.2.1,
        )
