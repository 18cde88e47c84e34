use Rattle.std.proofs.Common.{◌∙◌, ap, refl, sym, Some, None}
use Rattle.otlp_receiver.specs.declared.reply.denial.Denial.TheVariants as denials
use Rattle.view_service.specs.Receives.{ReceivesContent}
use Rattle.view_service.proofs.receive.receive_content.Goals as goal

pub returns-then-is_above-clause-received : goal.returns-then-is_above-clause-received
returns-then-is_above-clause-received g c = (
  Some c.size_denial.result,
  ReceivesContent.no_room (sym c.is_above.ensures ∙ c.if-is_above.true)
      (ap Some c.size_denial.ensures) refl,
  c.in_ok-fill_denial.ensures,
)

pub returns-in-Err-Fault-clause-received : goal.returns-in-Err-Fault-clause-received
returns-in-Err-Fault-clause-received g c =
    let unread = c.in-Err-Fault.ensures.unread in (
      Some denials.BadBody,
      ReceivesContent.unread (sym c.is_above.ensures ∙ c.if-is_above.false)
          (rw c.in-Err-Fault.field-0-is at unread) refl refl,
      c.in_ok-fill_denial-in-Err-Fault.ensures,
    )

pub returns-in-Err-OutOfMemory-clause-received : goal.returns-in-Err-OutOfMemory-clause-received
returns-in-Err-OutOfMemory-clause-received g c = (
  Some denials.OutOfMemory,
  ReceivesContent.no_memory (sym c.is_above.ensures ∙ c.if-is_above.false) refl
      c.give_room.ensures,
  c.requires.busy,
)

pub returns-in-Ok-keep_parts-clause-received : goal.returns-in-Ok-keep_parts-clause-received
returns-in-Ok-keep_parts-clause-received g c = (
  None,
  ReceivesContent.kept _ (sym c.is_above.ensures ∙ c.if-is_above.false) c.in-Ok.ensures.parts refl
      c.in-Ok-keep_parts.ensures.kept,
  c.in_ok-fill_taken.ensures,
)

pub returns-in_ok-response-in-Err-TooLarge-clause-received :
    goal.returns-in_ok-response-in-Err-TooLarge-clause-received
returns-in_ok-response-in-Err-TooLarge-clause-received g c =
    let lacking =
    c.keep_parts.ensures.too_large
    (rw (c.in-Err-TooLarge.is, c.in-Err-TooLarge.field-0-is) refl) in (
      Some denials.TracesTooLarge,
      ReceivesContent.too_large _ (sym c.is_above.ensures ∙ c.if-is_above.false)
          c.in-Ok.ensures.parts lacking.0 refl lacking.1,
      c.in_ok-response-in-Err-TooLarge.ensures,
    )

pub returns-in-Err-OutOfMemory-keep_parts-clause-received :
    goal.returns-in-Err-OutOfMemory-keep_parts-clause-received
returns-in-Err-OutOfMemory-keep_parts-clause-received g c = (
  Some denials.OutOfMemory,
  ReceivesContent.no_memory (sym c.is_above.ensures ∙ c.if-is_above.false) refl
      (c.keep_parts.ensures.gave_room
      (rw (c.in-Err-OutOfMemory-keep_parts.is, c.in-Err-OutOfMemory-keep_parts.field-0-is) refl)),
  c.requires.busy,
)
