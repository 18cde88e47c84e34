use Rattle.std.proofs.Common.{refl, sym, ◌∙◌, arith}
use Rattle.model_message.specs.Tables
use Rattle.model_message.specs.Tables.{message}
use Rattle.otlp_wire.proofs.ResponseSteps.{response-none, response-skips, response-more}
use Rattle.otlp_wire.proofs.ResponseSteps.{response-fails}
use Rattle.otlp_wire.proofs.response.partial_fields.Goals as goal

pub loop-field-init : goal.loop-field-init
loop-field-init c = (
  tt,
  tt,
  response-none _ _ _ refl refl
      (sym c.new-field-items.ensures.whole
      ∙ sym c.into_iter-field-iterator.ensures.into_iter_gives),
)

pub loop-field-preserved-in_default : goal.loop-field-preserved-in_default
loop-field-preserved-in_default c =
    let gives = rw c.in_ok-field.was at c.in-Some.ensures.steps in (
      tt,
      tt,
      response-skips _ _ _ _ _ c.loop-field.invariant.2 gives
          (c.in_default.ensures (message Tables.partial_success) refl),
    )

pub returns-in_err-counted-clause-err : goal.returns-in_err-counted-clause-err
returns-in_err-counted-clause-err c =
    let gives = rw c.in_ok-field.was at c.in-Some.ensures.steps in
    let bad =
    response-fails _ _ _ _ _ c.in-Some-bytes_in.content.now _ c.loop-field.invariant.2 gives
    (c.in-Some-bytes_in.ensures (message Tables.partial_success) refl)
    c.in_err-counted.ensures.err in
    grind (arith, bad)

pub loop-field-preserved : goal.loop-field-preserved
loop-field-preserved c =
    let gives = rw c.in_ok-field.was at c.in-Some.ensures.steps in (
      tt,
      tt,
      response-more _ _ _ _ _ _ c.in-Some-bytes_in.content.now c.loop-field.invariant.2 gives
          (c.in-Some-bytes_in.ensures (message Tables.partial_success) refl)
          c.in_ok-counted.ensures.whole c.in_ok-counted.ensures.ok,
    )
