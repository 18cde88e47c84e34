use Rattle.std.proofs.Common.{◌≡◌, refl, sym, ◌∙◌, rules, Err, []}
use Rattle.model_message.specs.Wire.{row}
use Rattle.model_message.specs.Tables
use Rattle.model_message.specs.Messages.{value}
use Rattle.otlp_wire.specs.Fields.{field_of}
use Rattle.otlp_read.specs.Members.{HoldsPair}
use Rattle.otlp_wire.specs.declared.fault.ReadFault.TheVariants.{Wire}
use Rattle.otlp_wire.proofs.FieldsRead.{read-none, read-more}
use Rattle.otlp_wire.proofs.GatherSteps.{row-fails, field-fails, part-names}
use Rattle.otlp_read.proofs.PairSteps.{pair-none}
use Rattle.otlp_read.proofs.any_value.PairParts.of.Goals as goal

pub loop-field-init : goal.loop-field-init
loop-field-init g c = (
  tt,
  tt,
  read-none _ (row c.args.content.now) _ (pair-none c.args.depth _ refl refl)
      (sym c.new-field-items.ensures.whole
      ∙ sym c.into_iter-field-iterator.ensures.into_iter_gives),
)

pub returns-in_err-field-clause-err : goal.returns-in_err-field-clause-err
returns-in_err-field-clause-err g c =
    let gives = rw c.in_err-field.was at c.in-Some.ensures.steps in
    let told : c.from_residual.result ≡ Err (Wire c.in_err-field.field-0.0) = search rules in
    let bad =
    row-fails (value c.args.depth) Tables.key_value
    (HoldsPair c.args.depth c.loop-field.parts) c.args.content.now _ _ c.loop-field.invariant.2
    gives.0 in
    rw told
    (part-names (value c.args.depth) Tables.key_value [] [] c.args.content.now
    (Wire c.in_err-field.field-0.0) (bad _ _))

pub returns-in_err-parts-clause-err : goal.returns-in_err-parts-clause-err
returns-in_err-parts-clause-err g c =
    let gives = rw c.in_ok-field.was at c.in-Some.ensures.steps in
    let told : c.from_residual-in_err-parts.result ≡ Err c.in_err-parts.field-0.0 = search rules in
    let bad =
    field-fails (value c.args.depth) Tables.key_value
    (HoldsPair c.args.depth c.loop-field.parts) c.args.content.now _ _
    (field_of c.in_ok-field.field-0) c.loop-field.invariant.2 gives c.in_err-parts.field-0.0
    c.in_err-parts.ensures.err in
    rw told
    (part-names
    (value c.args.depth) Tables.key_value [] [] c.args.content.now c.in_err-parts.field-0.0
    (bad _ _))

pub loop-field-preserved : goal.loop-field-preserved
loop-field-preserved g c =
    let gives = rw c.in_ok-field.was at c.in-Some.ensures.steps in (
      tt,
      tt,
      read-more (HoldsPair c.args.depth c.loop-field.parts)
          (HoldsPair c.args.depth c.in_ok-parts.parts) (row c.args.content.now) _ _
          (field_of c.in_ok-field.field-0) c.loop-field.invariant.2 gives c.in_ok-parts.ensures.ok,
    )
