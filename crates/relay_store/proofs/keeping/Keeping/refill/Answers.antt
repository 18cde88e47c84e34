use Rattle.std.proofs.Common.{◌≡◌, ◌≢◌, ◌∙◌, ◌+◌, ◌^◌, ◌<◌, [], ap, arith, length, refl, subst, sym}
use Rattle.std.specs.Prelude.{IsNone, Option}
use Rattle.std.proofs.lemmas.List.{length-map}
use Rattle.relay_queue.specs.Bodies.{bodies_view}
use Rattle.spool.specs.Spools.{numbered_from}
use Rattle.relay_store.specs.declared.waiting.WaitingBodies.{WaitingBodies}
use Rattle.relay_store.specs.Fronts.{BeginWith, bodies_of, spool_waiting}
use Rattle.relay_store.specs.Kept.{Kept, remaining_in}
use Rattle.relay_store.proofs.Fronts.{begin-some}
use Rattle.relay_store.proofs.Remaining.{some-view}
use Rattle.relay_store.proofs.Sound.{found-in, remaining-found-in, none-in, sound-filled}
use Rattle.relay_store.proofs.Sound.{sound-none}
use Rattle.relay_store.proofs.Waits.{if-some, nil-items}
use Rattle.relay_store.proofs.keeping.Keeping.refill.Goals as goal

pub invariant_of-self : goal.invariant_of-self
invariant_of-self g c =
    let old = c.self.inside in
    let found = c.in-Ok-Some.found in
    let numbers =
    if-some (λ (x : WaitingBodies). x.first + length x.bodies.items < 2 ^ 64)
    c.in-Ok-Some.field-0 found c.in-Ok-Some.field-0-is c.in-Ok-Some.ensures.numbers in
    let some =
    if-some (λ (x : WaitingBodies). x.bodies.items ≢ []) c.in-Ok-Some.field-0 found
    c.in-Ok-Some.field-0-is c.in-Ok-Some.ensures.some in
    let begins =
    if-some (λ (x : WaitingBodies). g.D.Device.is_known
    → BeginWith x.first (bodies_view x.bodies.items)
    (numbered_from old.first (spool_waiting g.D.Device.files old.spool)))
    c.in-Ok-Some.field-0 found c.in-Ok-Some.field-0-is c.in-Ok-Some.ensures.found in
    sound-none g.D.Device.is_known g.D.Device.files g.D.Device.moment g.D.Device.left_at
    _ (c.admit_first.ensures.first.history c.self.invariant.history)
    c.in_err-admit_first-in-Ok-Some.ensures.none
    (λ known spooled failed. c.in-Ok-Some.ensures.settled known) (omega (arith, numbers))
    (λ known spooled failed.
    let was = c.self.invariant.numbered known spooled failed in
    let found_in =
    found-in g.D.Device.is_known g.D.Device.files g.D.Device.moment g.D.Device.left_at old
    found.first (bodies_view found.bodies.items) c.self.invariant
    (some-view found.bodies.items some) known spooled failed (begins known) in (
      c.in-Ok-Some.ensures.stays was.0,
      found_in.within,
      was.2 ∙ sym (c.in-Ok-Some.ensures.next known),
    ))

pub invariant_of-self-in-Ok-Some : goal.invariant_of-self-in-Ok-Some
invariant_of-self-in-Ok-Some g c =
    let old = c.self.inside in
    let found = c.in-Ok-Some.found in
    let numbers =
    if-some (λ (x : WaitingBodies). x.first + length x.bodies.items < 2 ^ 64)
    c.in-Ok-Some.field-0 found c.in-Ok-Some.field-0-is c.in-Ok-Some.ensures.numbers in
    sound-filled g.D.Device.is_known g.D.Device.files g.D.Device.moment g.D.Device.left_at
    old _ (bodies_view found.bodies.items) c.self.invariant
    (nil-items old.desk.kept
    (omega (arith, c.counts.ensures.kept, c.if-counts-gt0.false)))
    c.admit_first.ensures.first
    (omega (arith, numbers, length-map found.bodies.items (λ body. body.items)))
    (if-some (λ (x : WaitingBodies). g.D.Device.is_known
    → BeginWith x.first (bodies_view x.bodies.items)
    (numbered_from old.first (spool_waiting g.D.Device.files old.spool)))
    c.in-Ok-Some.field-0 found c.in-Ok-Some.field-0-is c.in-Ok-Some.ensures.found)
    (λ known is not. c.in-Ok-Some.ensures.settled known) c.in-Ok-Some.ensures.same
    (some-view found.bodies.items
    (if-some (λ (x : WaitingBodies). x.bodies.items ≢ []) c.in-Ok-Some.field-0 found
    c.in-Ok-Some.field-0-is c.in-Ok-Some.ensures.some))
    c.in-Ok-Some.ensures.stays c.in-Ok-Some.ensures.next refl refl refl

pub invariant_of-self-in-Ok-None : goal.invariant_of-self-in-Ok-None
invariant_of-self-in-Ok-None g c =
    let old = c.self.inside in
    sound-none g.D.Device.is_known g.D.Device.files g.D.Device.moment g.D.Device.left_at
    _ c.self.invariant.history
    (nil-items old.desk.kept
    (omega (arith, c.counts.ensures.kept, c.if-counts-gt0.false)))
    (λ known spooled failed. c.in-Ok-None.ensures.settled known) (omega arith)
    (λ known spooled failed.
    let was = c.self.invariant.numbered known spooled failed in (
      c.in-Ok-None.ensures.stays was.0,
      omega arith,
      was.2 ∙ sym (c.in-Ok-None.ensures.next known),
    ))

pub returns-in_ok-admit_first-in-Ok-Some-clause-refilled :
    goal.returns-in_ok-admit_first-in-Ok-Some-clause-refilled
returns-in_ok-admit_first-in-Ok-Some-clause-refilled g c = λ e known.
    let old = c.self.inside in
    let found = c.in-Ok-Some.found in
    subst (λ (k : Kept _). BeginWith found.first c.admit_first.new.desk.kept
    (numbered_from k.first (spool_waiting g.D.Device.files k.spool))) c.self.view_is
    (begin-some found.first (bodies_view found.bodies.items)
    (numbered_from old.first (spool_waiting g.D.Device.files old.spool)) old.desk
    c.admit_first.new.desk
    (if-some (λ (x : WaitingBodies). g.D.Device.is_known
    → BeginWith x.first (bodies_view x.bodies.items)
    (numbered_from old.first (spool_waiting g.D.Device.files old.spool)))
    c.in-Ok-Some.field-0 found c.in-Ok-Some.field-0-is c.in-Ok-Some.ensures.found known)
    c.admit_first.ensures.first
    (nil-items old.desk.kept
    (omega (arith, c.counts.ensures.kept, c.if-counts-gt0.false))))

pub returns-in_err-admit_first-in-Ok-Some-clause-remaining :
    goal.returns-in_err-admit_first-in-Ok-Some-clause-remaining
returns-in_err-admit_first-in-Ok-Some-clause-remaining g c = λ known is not.
    let files = g.D.Device.files in
    let old = c.self.inside in
    let found = c.in-Ok-Some.found in
    subst (λ (k : Kept _). bodies_of (numbered_from found.first
    (spool_waiting files c.find_waiting.new.spool)) ≡ remaining_in files k) c.self.view_is
    (remaining-found-in g.D.Device.is_known files g.D.Device.moment g.D.Device.left_at old
    found.first
    (bodies_view found.bodies.items) c.find_waiting.new.spool c.self.invariant
    (some-view found.bodies.items
    (if-some (λ (x : WaitingBodies). x.bodies.items ≢ []) c.in-Ok-Some.field-0 found
    c.in-Ok-Some.field-0-is c.in-Ok-Some.ensures.some))
    known (ap (λ (k : Kept _). k.is_spooled) c.self.view_is ∙ is) not
    (if-some (λ (x : WaitingBodies). g.D.Device.is_known
    → BeginWith x.first (bodies_view x.bodies.items)
    (numbered_from old.first (spool_waiting files old.spool)))
    c.in-Ok-Some.field-0 found c.in-Ok-Some.field-0-is c.in-Ok-Some.ensures.found known)
    (c.in-Ok-Some.ensures.same known))

pub returns-in_ok-admit_first-in-Ok-Some-clause-remaining :
    goal.returns-in_ok-admit_first-in-Ok-Some-clause-remaining
returns-in_ok-admit_first-in-Ok-Some-clause-remaining g c = λ known is not.
    let files = g.D.Device.files in
    let old = c.self.inside in
    let found = c.in-Ok-Some.found in
    subst (λ (k : Kept _). bodies_of (numbered_from found.first
    (spool_waiting files c.find_waiting.new.spool)) ≡ remaining_in files k) c.self.view_is
    (remaining-found-in g.D.Device.is_known files g.D.Device.moment g.D.Device.left_at old
    found.first
    (bodies_view found.bodies.items) c.find_waiting.new.spool c.self.invariant
    (some-view found.bodies.items
    (if-some (λ (x : WaitingBodies). x.bodies.items ≢ []) c.in-Ok-Some.field-0 found
    c.in-Ok-Some.field-0-is c.in-Ok-Some.ensures.some))
    known (ap (λ (k : Kept _). k.is_spooled) c.self.view_is ∙ is) not
    (if-some (λ (x : WaitingBodies). g.D.Device.is_known
    → BeginWith x.first (bodies_view x.bodies.items)
    (numbered_from old.first (spool_waiting files old.spool)))
    c.in-Ok-Some.field-0 found c.in-Ok-Some.field-0-is c.in-Ok-Some.ensures.found known)
    (c.in-Ok-Some.ensures.same known))

pub returns-in-Ok-None-clause-remaining : goal.returns-in-Ok-None-clause-remaining
returns-in-Ok-None-clause-remaining g c = λ known is not.
    let files = g.D.Device.files in
    let old = c.self.inside in
    let was = ap (λ (k : Kept _). k.is_spooled) c.self.view_is ∙ is in
    subst (λ (k : Kept _). bodies_of (numbered_from old.next
    (spool_waiting files c.find_waiting.new.spool)) ≡ remaining_in files k) c.self.view_is
    (ap (λ w. bodies_of (numbered_from old.next w)) (c.in-Ok-None.ensures.same known)
    ∙ none-in g.D.Device.is_known files g.D.Device.moment g.D.Device.left_at old
    c.self.invariant known was not (c.in-Ok-None.ensures.none
    (subst (λ (o : Option _). IsNone o) (sym c.in-Ok-None.field-0-is) refl) known))
