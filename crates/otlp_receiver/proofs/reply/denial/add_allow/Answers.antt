use Rattle.otlp_receiver.proofs.reply.denial.add_allow.Goals as goal

pub returns-in-PageMethod-clause-fields : goal.returns-in-PageMethod-clause-fields
returns-in-PageMethod-clause-fields c =
    rw c.in-PageMethod.is c.add_field-in-PageMethod.ensures.fields
