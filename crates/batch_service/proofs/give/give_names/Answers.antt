use Rattle.batch_service.proofs.Names.{gains_both}
use Rattle.batch_service.proofs.give.give_names.Goals as goal

pub returns : goal.returns
returns g c = gains_both _ _ _ _ _ c.give_dropped.ensures c.give_lost.ensures
