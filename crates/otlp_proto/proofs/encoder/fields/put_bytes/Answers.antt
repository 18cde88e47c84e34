use Rattle.std.proofs.Common.{sym, ◌∙◌}
use Rattle.otlp_proto.proofs.Writing.{some-octets, no-octets}
use Rattle.otlp_proto.proofs.encoder.fields.put_bytes.Goals as goal

pub returns-then-not-is_empty : goal.returns-then-not-is_empty
returns-then-not-is_empty g c =
    some-octets (sym c.is_empty.ensures ∙ c.if-not-is_empty.true) c.put_len.ensures

pub returns-else-not-is_empty : goal.returns-else-not-is_empty
returns-else-not-is_empty g c = no-octets (sym c.is_empty.ensures ∙ c.if-not-is_empty.false)
