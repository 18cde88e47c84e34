use Rattle.std.proofs.Common.{refl, Some}
use Rattle.http_exporter.specs.declared.failure.Failure.TheVariants.{WriteStopped}
use Rattle.http_exporter.specs.Attempts.{replied, replied_after_a_stop, stopped}
use Rattle.http_exporter.proofs.exporter.LinkExporter.exchange.Goals as goal

pub returns-in-Ok : goal.returns-in-Ok
returns-in-Ok g c = (
  _,
  replied c.send.new.link _
      (rw (← c.self.view_is) c.in-Ok.ensures.sent) c.read-reply.ensures c.met_by.ensures.outcome
      refl,
  c.met_by.ensures.failure,
)

pub returns-in-Err : goal.returns-in-Err
returns-in-Err g c =
    let read = c.read_after_a_stop.ensures in (
      _,
      replied_after_a_stop c.send.new.link read.0 (rw (← c.self.view_is) c.if-self.true)
          (rw (← c.self.view_is) c.in-Err.ensures.stopped) read.1 read.2 refl,
      read.3,
    )

pub returns-in-Err-2 : goal.returns-in-Err-2
returns-in-Err-2 g c = (
  Some WriteStopped,
  stopped (rw (← c.self.view_is) c.if-self.false)
      (rw (← c.self.view_is) c.in-Err-2.ensures.stopped) refl refl,
  (WriteStopped, refl, refl),
)
