use Rattle.std.proofs.Common.{refl, subst}
use Rattle.http_exporter.specs.Deadlines.{RestartsTime, asked}
use Rattle.http_exporter.proofs.deadline.DeadlineKeptLink.renew.Goals as goal

pub returns-then-restart : goal.returns-then-restart
returns-then-restart g c =
    rw (← c.self.view_is)
    (asked (subst (λ b. RestartsTime g.C.Monotonic.reads c.self.inside.time b c.restart.new.self)
    c.if-restart.true c.restart.ensures)
    c.is_idle.ensures refl)
