use Rattle.std.proofs.Common.{refl}
use Rattle.spool.proofs.SurveyLaws.{settled-found}
use Rattle.spool.proofs.state.Spool.open.Goals as goal

pub returns-clause-settled : goal.returns-clause-settled
returns-clause-settled g c = λ known.
    settled-found g.D.Device.files g.D.Device.moment g.D.Device.left_at _ c.in-Ok.found.1
    (g.D.Device.files c.args.device)
    (c.in-Ok.ensures.survey known) (c.in-Ok.ensures.same known)
    (c.in-Ok.ensures.synced known) c.split_empty-growing.ensures refl c.max-next.ensures refl
