use Rattle.std.proofs.Common.{map, subst, take}
use Rattle.httparse.specs.Spans.{header_bytes}
use Rattle.http_wire.specs.Fields.{RefusesFields}
use Rattle.otlp_http.proofs.FinalLemmas.{refused_fields}
use Rattle.otlp_http.proofs.reply.read_fields.Goals as goal

pub returns-in-Err-keep_fields-clause-none : goal.returns-in-Err-keep_fields-clause-none
returns-in-Err-keep_fields-clause-none g c =
    let final = c.in-Ok.ensures.head in
    refused_fields _ _ _ _ _ _ _ _ final
    (subst (λ t. RefusesFields
    (map (header_bytes t) (take c.in-Ok.head.headers c.read_final_head.new.spans))
    c.in-Err-keep_fields.fault)
    c.deref.ensures.value c.in-Err-keep_fields.ensures.refused)
