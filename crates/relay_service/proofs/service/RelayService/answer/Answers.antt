use Rattle.std.proofs.Common.{refl}
use Rattle.relay_service.proofs.Answering.{still_answered}
use Rattle.relay_service.proofs.service.RelayService.answer.Goals as goal

pub returns-clause-answers : goal.returns-clause-answers
returns-clause-answers g c =
    still_answered _ _ _ _ _ _ _ _ _ _ _ refl refl c.in_ok-fill.ensures.answers
