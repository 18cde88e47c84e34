use Rattle.std.proofs.Common.{◌≡◌, rules, to_z, of_z, w64, sym, ap, ◌∙◌}
use Rattle.otlp_wire.specs.Response.{rejected_in}
use Rattle.otlp_wire.proofs.response.read_rejected_spans.Goals as goal

pub returns-clause-ok : goal.returns-clause-ok
returns-clause-ok c =
    let read = c.in_ok-rejected_spans.ensures.ok in
    let same : to_z w64 (of_z w64 c.cast_signed.result) ≡ c.cast_signed.result = search rules in
    record { whole = read.0; is = same ∙ c.cast_signed.ensures ∙ sym (ap rejected_in read.1) }
