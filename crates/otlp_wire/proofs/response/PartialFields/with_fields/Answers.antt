use Rattle.otlp_wire.proofs.ResponseSteps.{part-more}
use Rattle.otlp_wire.proofs.response.PartialFields.with_fields.Goals as goal

pub loop-field-preserved : goal.loop-field-preserved
loop-field-preserved c =
    let gives = rw c.in_ok-field.was at c.in-Some.ensures.steps in
    (tt, tt, part-more _ _ _ _ _ _ _ c.loop-field.invariant.2 gives c.with-counted.ensures)
