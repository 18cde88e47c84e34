use Rattle.std.proofs.Common.{◌≡◌, Err, arith}
use Rattle.model_message.specs.Wire.{row}
use Rattle.model_message.specs.Messages.{value, max_depth}
use Rattle.otlp_wire.specs.Fields.{field_of}
use Rattle.otlp_wire.specs.Gathering.{IsGathered}
use Rattle.otlp_wire.proofs.FieldsRead.{read-more}
use Rattle.otlp_wire.proofs.GatherSteps.{After, after-more, field-fails, has-bytes}
use Rattle.otlp_wire.proofs.gather.gather.Goals as goal

pub returns-in_err-take-clause-err : goal.returns-in_err-take-clause-err
returns-in_err-take-clause-err g c =
    let gives = rw c.in_ok-field.was at c.in-Some.ensures.steps in
    let told : c.from_residual-in_err-take.result ≡ Err c.in_err-take.field-0.0 = grind arith in
    rw told
    (field-fails (value max_depth) g.G.GatherFields.table _ c.args.content.now _ _
    (field_of c.in_ok-field.field-0) c.loop-field.invariant.2 gives c.in_err-take.field-0.0
    c.in_err-take.ensures.err)

pub returns-in_err-take-clause-memory : goal.returns-in_err-take-clause-memory
returns-in_err-take-clause-memory g c wants =
    let gives = rw c.in_ok-field.was at c.in-Some.ensures.steps in
    has-bytes _ c.args.content.now _ _
    (field_of c.in_ok-field.field-0) c.loop-field.invariant.2 gives

pub loop-field-preserved : goal.loop-field-preserved
loop-field-preserved g c =
    let gives = rw c.in_ok-field.was at c.in-Some.ensures.steps in
    let seen = g.G.GatherFields.gathered in
    let Q = IsGathered (value max_depth) g.G.GatherFields.table in
    let f = field_of c.in_ok-field.field-0 in (
      tt,
      tt,
      read-more (After Q (seen c.args.gathered.now) (seen c.loop-field.gathered))
          (After Q (seen c.args.gathered.now) (seen c.take.new.self))
          (row c.args.content.now) _ _ f c.loop-field.invariant.2 gives
          (after-more Q (seen c.args.gathered.now) (seen c.loop-field.gathered)
          (seen c.take.new.self) f c.in_ok-take.ensures.ok),
    )
