use Rattle.std.proofs.Common.{◌∙◌, ap, length, refl, subst, sym}
use Rattle.model_body.specs.Names.{IsReadable, spans_in}
use Rattle.relay_service.specs.Receives.{Keeps}
use Rattle.relay_service.proofs.Unchanged.{keeps_copy}
use Rattle.relay_service.proofs.receive.keep_copy.Goals as goal

pub keep_body-requires-clause-readable : goal.keep_body-requires-clause-readable
keep_body-requires-clause-readable g c =
    subst IsReadable (sym c.in-Ok.ensures) c.requires.readable

pub keep_body-requires-clause-spans : goal.keep_body-requires-clause-spans
keep_body-requires-clause-spans g c =
    c.requires.spans ∙ ap (λ b. length (spans_in b)) (sym c.in-Ok.ensures)

pub returns-in-Ok : goal.returns-in-Ok
returns-in-Ok g c =
    keeps_copy _ _ _ _ _ _ _ _ c.in-Ok.ensures c.keep_body.ensures

pub returns-in-Err : goal.returns-in-Err
returns-in-Err g c = Keeps.no_memory refl refl
