use Rattle.std.proofs.Common.{ap, reverse, ◌∙◌}
use Rattle.batch_service.proofs.GivenUp.{gives_up}
use Rattle.batch_service.proofs.rest.give_up.Goals as goal

pub returns : goal.returns
returns g c =
    let names = c.reversed.ensures in
    let drained = c.drain_names.ensures in
    gives_up _ _ _ _ _ _ _ c.abandon_waiting.ensures (names.dropped ∙ ap reverse drained.dropped)
    (names.lost ∙ ap reverse drained.lost) drained.desk c.give_names.ensures
