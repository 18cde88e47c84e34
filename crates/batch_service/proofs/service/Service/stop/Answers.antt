use Rattle.std.proofs.Common.{refl}
use Rattle.batch_service.proofs.Stops.{same_service, shuts_none, shuts_once}
use Rattle.batch_service.proofs.service.Service.stop.Goals as goal

pub end-requires-clause-shut : goal.end-requires-clause-shut
end-requires-clause-shut g c κs within =
    shuts_once c.shutdown.result c.shutdown.ensures.asked.desk.next_ticket _ c.self.inside.control
    c.shutdown.new.self c.shutdown.ensures.account

pub invariant_of-self : goal.invariant_of-self
invariant_of-self g c =
    let inv = c.self.invariant in (
      shuts_none c.shutdown.result c.shutdown.ensures.asked.desk.next_ticket _ c.self.inside.control
          c.shutdown.new.self c.shutdown.ensures.account inv.0,
      inv.1,
    )

pub returns-clause-served : goal.returns-clause-served
returns-clause-served g c =
    rw (← c.self.view_is) (same_service _ _ _ _ _ _ _ refl c.end.ensures.served)
