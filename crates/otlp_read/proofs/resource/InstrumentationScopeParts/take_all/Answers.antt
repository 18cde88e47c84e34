use Rattle.std.proofs.Common.{◌≡◌, Err, arith}
use Rattle.model_message.specs.Wire.{row}
use Rattle.model_message.specs.Tables
use Rattle.model_message.specs.Messages.{value, max_depth}
use Rattle.otlp_wire.specs.Fields.{field_of}
use Rattle.otlp_wire.specs.Gathering.{IsGathered}
use Rattle.otlp_wire.specs.declared.fault.ReadFault.TheVariants.{Wire}
use Rattle.otlp_wire.proofs.GatherSteps.{row-fails, field-fails}
use Rattle.otlp_read.proofs.TableSteps.{row-more}
use Rattle.otlp_read.proofs.resource.InstrumentationScopeParts.take_all.Goals as goal

pub returns-in_err-field-clause-err : goal.returns-in_err-field-clause-err
returns-in_err-field-clause-err g c =
    let gives = rw c.in_err-field.was at c.in-Some.ensures.steps in
    let told : c.from_residual.result ≡ Err (Wire c.in_err-field.field-0.0) = grind arith in
    rw told
    (row-fails
    (value max_depth) Tables.scope _ c.args.content.now _ _ c.loop-field.invariant.2 gives.0)

pub returns-in_err-take-clause-err : goal.returns-in_err-take-clause-err
returns-in_err-take-clause-err g c =
    let gives = rw c.in_ok-field.was at c.in-Some.ensures.steps in
    let told : c.from_residual-in_err-take.result ≡ Err c.in_err-take.field-0.0 = grind arith in
    rw told
    (field-fails (value max_depth) Tables.scope _ c.args.content.now _ _
    (field_of c.in_ok-field.field-0) c.loop-field.invariant.2 gives c.in_err-take.field-0.0
    c.in_err-take.ensures.err)

pub loop-field-preserved : goal.loop-field-preserved
loop-field-preserved g c =
    let gives = rw c.in_ok-field.was at c.in-Some.ensures.steps in (
      tt,
      tt,
      row-more (IsGathered (value max_depth) Tables.scope) _ _ _ (row c.args.content.now) _ _
          (field_of c.in_ok-field.field-0) c.loop-field.invariant.2 gives c.in_ok-take.ensures.ok,
    )
