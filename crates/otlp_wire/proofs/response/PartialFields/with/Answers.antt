use Rattle.std.proofs.Common.{refl}
use Rattle.model_message.specs.Tables.{text, int64}
use Rattle.otlp_wire.specs.Fields.{field_of}
use Rattle.otlp_wire.proofs.LastPayloads.{counts-more}
use Rattle.otlp_wire.proofs.response.PartialFields.with.Goals as goal

pub returns : goal.returns
returns c =
    λ fields h. counts-more c.args.self (field_of c.args.field) _ _ (c.varint_in.ensures int64 refl)
    (c.bytes_in.ensures text refl) _ _ c.unwrap_or.ensures c.unwrap_or-2.ensures fields h
