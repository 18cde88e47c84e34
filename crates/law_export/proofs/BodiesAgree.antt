-- The same bytes are one body.
use Rattle.std.proofs.Common.{◌≡◌, ◌≢◌, ℕ, ◌+◌, ◌<◌, ◌≤◌, List, [], ◌∷◌, ◌++◌, length, refl, sym}
use Rattle.std.proofs.Common.{ap, ◌∙◌, arith, length-append, Some, Result, Ok, Err}
use Rattle.http_wire.specs.declared.fault.HttpFault.{HttpFault}
use Rattle.http_wire.specs.declared.fault.HttpFault.TheVariants as faults
use Rattle.http_wire.specs.declared.limits.HeadLimits.{HeadLimits}
use Rattle.law_export.proofs.ChunksAgree.{chunks_one}
use Rattle.http_wire.specs.Bodies.{Framing, empty, sized, chunked, to_end, unknown, IsSizedBody}
use Rattle.http_wire.specs.Bodies.{IsBodyToEnd, IsBody}

abbrev Answer : Type 0
Answer = Result (List ℕ) HttpFault

-- What a body of a given size is, where no read failed and no memory was refused.
data OfSize (limit size : ℕ) (taken left : List ℕ) (answer : Answer) : Type 0 where
  whole : answer ≡ Ok taken → length taken ≡ size → size ≤ limit
      → OfSize limit size taken left answer
  cut : answer ≡ Err faults.Ended → left ≡ [] → length taken < size → size ≤ limit
      → OfSize limit size taken left answer
  large : answer ≡ Err faults.TooLarge → limit < size → OfSize limit size taken left answer

of_size : (limit size : ℕ) (taken left : List ℕ) (failed : Type 0) (answer : Answer)
    → IsSizedBody limit size taken (Some left) failed answer
    → ¬ failed → answer ≢ Err faults.OutOfMemory → OfSize limit size taken left answer
of_size limit size taken left failed (Ok body) x sound ample = whole (ap Ok x.0) x.1 x.2
of_size limit size taken left failed (Err faults.Ended) x sound ample = cut refl x.0 x.1 x.2
of_size limit size taken left failed (Err faults.Device) x sound ample = absurd (sound x.0)
of_size limit size taken left failed (Err faults.TooLarge) x sound ample = large refl x.1
of_size limit size taken left failed (Err faults.OutOfMemory) x sound ample = absurd (ample refl)
of_size limit size taken left failed (Err faults.BadHead) x sound ample = absurd x
of_size limit size taken left failed (Err faults.BadLength) x sound ample = absurd x
of_size limit size taken left failed (Err faults.BadChunk) x sound ample = absurd x

-- What a body of all bytes is.
data OfAll (limit : ℕ) (taken left : List ℕ) (answer : Answer) : Type 0 where
  whole : answer ≡ Ok taken → left ≡ [] → length taken ≤ limit → OfAll limit taken left answer
  large : answer ≡ Err faults.TooLarge → limit < length taken → OfAll limit taken left answer

of_all : (limit : ℕ) (taken left : List ℕ) (failed : Type 0) (answer : Answer)
    → IsBodyToEnd limit taken (Some left) failed answer
    → ¬ failed → answer ≢ Err faults.OutOfMemory → OfAll limit taken left answer
of_all limit taken left failed (Ok body) x sound ample = whole (ap Ok x.0) x.1 x.2
of_all limit taken left failed (Err faults.Device) x sound ample = absurd (sound x.0)
of_all limit taken left failed (Err faults.TooLarge) x sound ample = large refl x
of_all limit taken left failed (Err faults.OutOfMemory) x sound ample = absurd (ample refl)
of_all limit taken left failed (Err faults.Ended) x sound ample = absurd x
of_all limit taken left failed (Err faults.BadHead) x sound ample = absurd x
of_all limit taken left failed (Err faults.BadLength) x sound ample = absurd x
of_all limit taken left failed (Err faults.BadChunk) x sound ample = absurd x

-- Fronts of one length of the same bytes are one.
equal_fronts : (a b c d : List ℕ) → a ++ b ≡ c ++ d → length a ≡ length c → a ≡ c
equal_fronts [] b [] d e l = refl
equal_fronts [] b (y ∷ c) d e l = absurd (omega (arith, l))
equal_fronts (x ∷ a) b [] d e l = absurd (omega (arith, l))
equal_fronts (x ∷ a) b (y ∷ c) d e l =
    let heads : x ≡ y = cc in
    let tails : a ++ b ≡ c ++ d = cc in
    let same = equal_fronts a b c d tails (omega (arith, l)) in
    cc

sizes : (a b c d : List ℕ) → a ++ b ≡ c ++ d → length a + length b ≡ length c + length d
sizes a b c d same = sym (length-append a b) ∙ ap length same ∙ length-append c d

sized_one : (limit size : ℕ) (taken left other_taken other_left : List ℕ) (answer other : Answer)
    → OfSize limit size taken left answer → OfSize limit size other_taken other_left other
    → taken ++ left ≡ other_taken ++ other_left → other ≡ answer
sized_one limit size taken left other_taken other_left answer other x y e =
    let count = sizes taken left other_taken other_left e in
    elim x [
      | whole is all fits ↦ elim y [
        | whole also own _ ↦
            also
            ∙ ap Ok
            (sym (equal_fronts taken left other_taken other_left e (omega (arith, all, own))))
            ∙ sym is
        | cut _ none short _ ↦
            let empty = ap length none in absurd (omega (arith, count, empty, short, all))
        | large _ over ↦ absurd (omega (arith, over, fits))
      ]
      | cut is none short fits ↦ elim y [
        | whole _ own _ ↦
            let empty = ap length none in absurd (omega (arith, count, empty, short, own))
        | cut also _ _ _ ↦ also ∙ sym is
        | large _ over ↦ absurd (omega (arith, over, fits))
      ]
      | large is over ↦ elim y [
        | whole _ _ fits ↦ absurd (omega (arith, over, fits))
        | cut _ _ _ fits ↦ absurd (omega (arith, over, fits))
        | large also _ ↦ also ∙ sym is
      ]
    ]

all_one : (limit : ℕ) (taken left other_taken other_left : List ℕ) (answer other : Answer)
    → OfAll limit taken left answer → OfAll limit other_taken other_left other
    → taken ++ left ≡ other_taken ++ other_left → other ≡ answer
all_one limit taken left other_taken other_left answer other x y e =
    let count = sizes taken left other_taken other_left e in
    elim x [
      | whole is none fits ↦
          let empty = ap length none in
          elim y [
            | whole also own _ ↦
                let own_empty = ap length own in
                also
                ∙ ap Ok
                (sym (equal_fronts taken left other_taken other_left e
                (omega (arith, count, empty, own_empty))))
                ∙ sym is
            | large _ over ↦ absurd (omega (arith, count, empty, over, fits))
          ]
      | large is over ↦ elim y [
        | whole _ own fits ↦
            let own_empty = ap length own in absurd (omega (arith, count, own_empty, over, fits))
        | large also _ ↦ also ∙ sym is
      ]
    ]

-- The same bytes are one body under one framing, if no read failed and no memory was refused.
pub body_one : (framing : Framing) (limits : HeadLimits)
    (taken left other_taken other_left : List ℕ) (failed other_failed : Type 0)
    (answer other : Answer)
    → IsBody framing limits taken (Some left) failed answer
    → IsBody framing limits other_taken (Some other_left) other_failed other
    → ¬ failed → ¬ other_failed → answer ≢ Err faults.OutOfMemory → other ≢ Err faults.OutOfMemory
    → taken ++ left ≡ other_taken ++ other_left → other ≡ answer
body_one empty limits taken left other_taken other_left failed other_failed answer other x y sound
    other_sound ample other_ample e =
    y.0 ∙ sym x.0
body_one (sized size) limits taken left other_taken other_left failed other_failed answer other x y
    sound other_sound ample other_ample e =
    sized_one limits.body size taken left other_taken other_left answer other
    (of_size limits.body size taken left failed answer x sound ample)
    (of_size limits.body size other_taken other_left other_failed other y other_sound other_ample) e
body_one chunked limits taken left other_taken other_left failed other_failed answer other x y sound
    other_sound ample other_ample e =
    chunks_one limits taken left other_taken other_left failed other_failed answer other x y sound
    other_sound ample other_ample e
body_one to_end limits taken left other_taken other_left failed other_failed answer other x y sound
    other_sound ample other_ample e =
    all_one limits.body taken left other_taken other_left answer other
    (of_all limits.body taken left failed answer x sound ample)
    (of_all limits.body other_taken other_left other_failed other y other_sound other_ample) e
body_one unknown limits taken left other_taken other_left failed other_failed answer other x y sound
    other_sound ample other_ample e =
    y.0 ∙ sym x.0
