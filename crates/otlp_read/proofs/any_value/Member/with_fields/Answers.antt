use Rattle.std.proofs.Common.{sym, ◌∙◌}
use Rattle.model_message.specs.Wire.{row}
use Rattle.otlp_wire.specs.Fields.{field_of}
use Rattle.otlp_wire.proofs.FieldsRead.{read-none, read-more}
use Rattle.otlp_read.proofs.MemberSteps.{Leads, leads-none, leads-more}
use Rattle.otlp_read.proofs.any_value.Member.with_fields.Goals as goal

pub loop-field-init : goal.loop-field-init
loop-field-init g c = (
  tt,
  tt,
  read-none (Leads c.args.self c.args.self) (row c.args.content.now) _ (leads-none c.args.self)
      (sym c.new-field-items.ensures.whole
      ∙ sym c.into_iter-field-iterator.ensures.into_iter_gives),
)

pub loop-field-preserved : goal.loop-field-preserved
loop-field-preserved g c =
    let gives = rw c.in_ok-field.was at c.in-Some.ensures.steps in
    let f = field_of c.in_ok-field.field-0 in (
      tt,
      tt,
      read-more (Leads c.args.self c.loop-field.member) (Leads c.args.self c.in_ok-member.member)
          (row c.args.content.now) _ _ f c.loop-field.invariant.2 gives
          (leads-more c.args.self c.loop-field.member c.in_ok-member.member f
          c.in_ok-member.ensures.ok),
    )
