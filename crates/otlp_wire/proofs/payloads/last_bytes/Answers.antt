use Rattle.std.proofs.Common.{ap, ◌∙◌}
use Rattle.otlp_wire.specs.Fields.{field_of}
use Rattle.otlp_wire.proofs.LastPayloads.{bytes-more}
use Rattle.otlp_wire.proofs.payloads.last_bytes.Goals as goal

pub returns : goal.returns
returns c =
    λ s w fields h. ap (λ b. b.now) c.unwrap_or.ensures
    ∙ bytes-more c.args.number s fields (field_of c.args.field) _ c.args.before
    (c.bytes_in.ensures s w) h
