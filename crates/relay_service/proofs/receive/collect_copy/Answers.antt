use Rattle.std.proofs.Common.{◌∙◌, ap, length, subst, sym}
use Rattle.model_body.specs.Names.{IsReadable, spans_in}
use Rattle.relay_service.proofs.receive.collect_copy.Goals as goal

pub collect-requires-clause-readable : goal.collect-requires-clause-readable
collect-requires-clause-readable g c =
    subst IsReadable (sym c.in-Ok.ensures) c.requires.readable

pub collect-requires-clause-spans : goal.collect-requires-clause-spans
collect-requires-clause-spans g c =
    c.requires.spans ∙ ap (λ b. length (spans_in b)) (sym c.in-Ok.ensures)
