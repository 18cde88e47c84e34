use Rattle.std.proofs.Common.{sym, subst}
use Rattle.model_message.specs.Reading.{Reads}
use Rattle.otlp_wire.specs.Faults.{NamesOne}
use Rattle.otlp_wire.proofs.Finished.{on-ok, on-err}
use Rattle.otlp_wire.proofs.gather.read_message.Goals as goal

pub returns-clause-err : goal.returns-clause-err
returns-clause-err g c =
    on-err c.finish.result
    (λ fault k. subst (λ r. NamesOne r.faults fault) (sym c.in_ok-parts.ensures.ok) k)
    c.finish.ensures.err

pub returns-clause-ok : goal.returns-clause-ok
returns-clause-ok g c =
    on-ok c.finish.result
    (λ x k. subst (λ r. Reads r (g.G.GatherFields.shown x)) (sym c.in_ok-parts.ensures.ok) k)
    c.finish.ensures.ok
