use Rattle.std.proofs.Common.{ap}
use Rattle.http_exporter.specs.Attempts.{linked}
use Rattle.http_exporter.proofs.FailureLemmas.{last_fails}
use Rattle.http_exporter.proofs.exporter.LinkExporter.attempt.Goals as goal

pub returns-in-Some-clause-outcome : goal.returns-in-Some-clause-outcome
returns-in-Some-clause-outcome g c =
    let posted = c.exchange-outcome.ensures in
    let dialed = ap (λ exporter. exporter.dial) c.keep.ensures.others in
    rw (← c.self.view_is) (
    linked c.in-Some.link c.exchange-outcome.new.link posted.0
    (rw (dialed, ← c.host.ensures.value, ← c.port.ensures) c.in-Some.ensures)
    posted.1 (c.keep.ensures.last posted.0 posted.2)
    )

pub returns-in-Some-clause-failed : goal.returns-in-Some-clause-failed
returns-in-Some-clause-failed g c =
    let posted = c.exchange-outcome.ensures in
    last_fails _ _ _ _ _ _ _ posted.0 _ _ posted.1 (c.keep.ensures.last posted.0 posted.2)
