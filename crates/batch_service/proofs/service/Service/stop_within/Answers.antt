use Rattle.std.proofs.Common.{refl}
use Rattle.batch_service.proofs.Stops.{begins_none, begins_once, same_service, stopped}
use Rattle.batch_service.proofs.service.Service.stop_within.Goals as goal

pub end-served-requires-clause-shut : goal.end-served-requires-clause-shut
end-served-requires-clause-shut g c κs within =
    begins_once c.begin_shutdown.ensures.asked.desk.next_ticket _ c.self.inside.control
    c.begin_shutdown.new.self c.begin_shutdown.ensures.account

pub invariant_of-self : goal.invariant_of-self
invariant_of-self g c =
    let inv = c.self.invariant in (
      begins_none c.begin_shutdown.ensures.asked.desk.next_ticket _ c.self.inside.control
          c.begin_shutdown.new.self c.begin_shutdown.ensures.account inv.0,
      inv.1,
    )

pub returns-clause-stopped : goal.returns-clause-stopped
returns-clause-stopped g c =
    rw (← c.self.view_is)
    (stopped _ _ _ _ _ _ _ _
    (same_service _ _ _ _ _ _ _ refl c.end-served.ensures.served) c.give_up.ensures)
