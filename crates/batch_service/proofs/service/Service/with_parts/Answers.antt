use Rattle.std.proofs.Common.{ap, ◌∙◌}
use Rattle.batch_service.proofs.Begins.{begins-as, ends-none, popped-is-new}
use Rattle.batch_service.proofs.service.Service.with_parts.Goals as goal

pub invariant_of-service : goal.invariant_of-service
invariant_of-service g c =
    let control = popped-is-new _ _ c.in-Some-Some.control c.requires.passes
    c.in-Some-Some.ensures.items in
    let names = popped-is-new _ _ c.in-Some-Some.names control.1
    c.in-Some-Some.ensures'.items in (
      ends-none c.in-Some-Some.control control.0,
      (
        ap (λ w. w.worker) c.in-Some.ensures ∙ c.requires.worker,
        (
          ap (λ w. w.names) c.in-Some.ensures ∙ names.0,
          (c.requires.none, (c.requires.origin, c.requires.room)),
        ),
      ),
    )

pub returns-clause-service : goal.returns-clause-service
returns-clause-service g c =
    let control = popped-is-new _ _ c.in-Some-Some.control c.requires.passes
    c.in-Some-Some.ensures.items in
    begins-as _ _ _ _ _ _ control.0 (ap (λ w. g.E.Exporter.handed w.exporter) c.in-Some.ensures)
    (ap (λ w. g.S.NameSink.named w.sink) c.in-Some.ensures)
