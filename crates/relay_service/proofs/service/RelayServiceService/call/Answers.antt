use Rattle.std.proofs.Common.{refl}
use Rattle.relay_service.proofs.service.RelayServiceService.call.Goals as goal

pub returns-clause-ok : goal.returns-clause-ok
returns-clause-ok g c =
    (c.args.room, c.in_ok-answer.ensures.answers, refl, c.in_ok-answer.ensures.counted)
