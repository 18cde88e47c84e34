use Rattle.std.proofs.Common.{refl}
use Rattle.http_exporter.specs.Deadlines.{restarted}
use Rattle.http_exporter.proofs.deadline.Countdown.restart.Goals as goal

pub returns-in-Some : goal.returns-in-Some
returns-in-Some g c =
    rw (← c.self.view_is)
    (restarted c.in-Some.now refl c.in-Some.ensures (rw c.saturating_add-self-inside.ensures refl))
