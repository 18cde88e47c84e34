use Rattle.otlp_receiver.proofs.Fields.{add_three}
use Rattle.otlp_receiver.proofs.reply.format.add_safety.Goals as goal

pub returns-clause-fields : goal.returns-clause-fields
returns-clause-fields c =
    add_three _ _ _ _ _ _ _ c.in_ok-add_field.ensures.fields c.in_ok-add_field-2.ensures.fields
    c.in_ok-add_field-3.ensures.fields
