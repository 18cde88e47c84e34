use Rattle.std.proofs.Common.{◌∙◌, refl}
use Rattle.model_message.specs.Wire.{i64}
use Rattle.otlp_wire.specs.Fields.{field_of}
use Rattle.otlp_wire.proofs.LastPayloads.{number-more}
use Rattle.otlp_wire.proofs.payloads.last_fixed64.Goals as goal

pub returns : goal.returns
returns c =
    λ s w fields h. c.unwrap_or.ensures
    ∙ number-more i64 (λ v. refl) c.args.number s fields (field_of c.args.field) _ c.args.before
    (c.fixed64_in.ensures s w) h
