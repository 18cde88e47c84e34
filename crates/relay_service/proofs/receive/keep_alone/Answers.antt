use Rattle.std.proofs.Common.{◌∙◌, ap, refl, sym}
use Rattle.relay_service.specs.Receives.{ReceivesContent}
use Rattle.relay_service.specs.declared.receive.Outcome.TheVariants as outcomes
use Rattle.relay_service.proofs.receive.keep_alone.Goals as goal

pub returns-then-is_above : goal.returns-then-is_above
returns-then-is_above g c =
    ReceivesContent.no_room (sym c.is_above.ensures ∙ c.if-is_above.true)
    (ap outcomes.Denied c.size_denial.ensures) refl

pub returns-in-Err-Fault : goal.returns-in-Err-Fault
returns-in-Err-Fault g c =
    let unread = c.in-Err-Fault.ensures.unread in
    ReceivesContent.unread (sym c.is_above.ensures ∙ c.if-is_above.false)
    (rw c.in-Err-Fault.field-0-is at unread) refl refl

pub returns-in-Err-OutOfMemory : goal.returns-in-Err-OutOfMemory
returns-in-Err-OutOfMemory g c =
    let unread = c.in-Err-OutOfMemory.ensures.unread in
    ReceivesContent.no_memory (sym c.is_above.ensures ∙ c.if-is_above.false)
    (rw c.in-Err-OutOfMemory.field-0-is at unread) refl refl
