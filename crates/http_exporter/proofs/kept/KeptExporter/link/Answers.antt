use Rattle.std.proofs.Common.{refl}
use Rattle.http_exporter.specs.Kept.{dialed, kept}
use Rattle.http_exporter.proofs.kept.KeptExporter.link.Goals as goal

pub returns-in-Some-clause-gets : goal.returns-in-Some-clause-gets
returns-in-Some-clause-gets g c =
    rw (← c.self.view_is)
    (kept c.in-Some.link (rw (c.take.ensures.value) at c.in-Some.ensures) refl refl)

pub returns-in-None-clause-gets : goal.returns-in-None-clause-gets
returns-in-None-clause-gets g c =
    rw (← c.self.view_is)
    (dialed (rw (c.take.ensures.value) at c.in-None.ensures) c.dial.ensures.dialed)
