use Rattle.std.proofs.Common.{refl}
use Rattle.http_exporter.specs.Kept.{read, none}
use Rattle.http_exporter.proofs.exporter.LinkExporter.read_kept.Goals as goal

pub returns-in-Ok : goal.returns-in-Ok
returns-in-Ok g c =
    rw (← c.self.view_is) (
      _,
      read _ c.in-Ok.ensures.reply.0 c.in-Ok.ensures.reply.1 c.met_by-outcome.ensures.outcome refl,
      c.met_by-outcome.ensures.failure,
    )

pub returns-in-Err : goal.returns-in-Err
returns-in-Err g c =
    rw (← c.self.view_is) (
      _,
      none _ c.in-Err.ensures.no_reply refl c.met_by-outcome-in-Err.ensures.outcome refl,
      c.met_by-outcome-in-Err.ensures.failure,
    )
